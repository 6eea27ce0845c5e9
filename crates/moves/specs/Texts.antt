-- The ways out of finding the text that a rename frees. Assumes nothing.
use Rattle.std.specs.Prelude.{◌≡◌, ◌≢◌, true, false, ℕ}
use Rattle.std.proofs.Common.{eq-eqb, ne_eqb}
use Rattle.layout.specs.Limits.{absent}
use Rattle.layout.specs.View.{View, is_symlink}
use Rattle.refusals.specs.declared.case.Case.{Case}
use Rattle.recounts.specs.Recount.{entries_after}
use Rattle.moves.specs.Plan.{move_with, freed_text}

module _ (v : View) (c : Case) (time : ℕ) where
  pub text_other : is_symlink v c.replaced ≡ false → absent ≡ freed_text v c time
  text_other k = rw k

  module _ (link : is_symlink v c.replaced ≡ true) (n : ℕ) (is : n ≡ entries_after v (move_with c time absent) c.replaced) where
    pub text_kept : n ≢ 0 → absent ≡ freed_text v c time
    text_kept some = rw (link, ← is, ne_eqb n 0 some)

    pub text_freed : n ≡ 0 → (t : ℕ) → t ≡ v.field c.replaced → t ≡ freed_text v c time
    text_freed none t e = rw (link, ← is, eq-eqb n 0 none) e
