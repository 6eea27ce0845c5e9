-- What the two type numbers say of a case, for steps 8 to 10. Assumes nothing.
use Rattle.std.specs.Prelude.{◌≡◌, refl, Bool, true, false, ◌&&◌, not, cond, List, ℕ, eqb, ltb}
use Rattle.std.proofs.Math.Bool.{and-false}
use Rattle.std.proofs.Math.Decide.{ℕ_discrete}
use Rattle.std.proofs.Common.{arith, eq-eqb, ne_eqb, le-ltb}
use Rattle.seq.specs.Truth.{not_both}
use Rattle.layout.specs.declared.Shape.{Shape}
use Rattle.layout.specs.Limits.{absent}
use Rattle.layout.specs.Facts.{Laid}
use Rattle.layout.specs.View.{View, view_of, kind_of, is_used, is_directory}
use Rattle.layout.proofs.ViewLaws.{other_kind}
use Rattle.refusals.specs.declared.case.Case.{Case}
use Rattle.refusals.specs.Case.{exists}
use Rattle.rename_steps.specs.Tests.{has_entries, not_empty}
use Rattle.refusals.specs.CaseIn.{CaseIn}
use Rattle.rename_steps.specs.Kinds.{TypesFit}

-- type 0 is that of no inode in use, and of no directory
used_kind : (v : View) (i : ℕ) → kind_of v i ≡ 0 → is_used v i ≡ false
unfolding kind_of
used_kind v i e = go (ltb i v.inodes) e
  where
    go : (b : Bool) → cond b (v.kind i) 0 ≡ 0 → (b && not (eqb (v.kind i) 0)) ≡ false
    go true e = rw (eq-eqb _ _ e)
    go false e = refl

pub no_directory : (v : View) (i : ℕ) → kind_of v i ≡ 0 → is_directory v i ≡ false
no_directory v i e = other_kind v i 2 (λ z. absurd (omega arith))

-- 0 says that new's name is missing, and any other type that it exists
pub kind_missing : (v : View) (c : Case) → CaseIn v c → kind_of v c.replaced ≡ 0 → exists c ≡ false
kind_missing v c f e = go (ℕ_discrete c.replaced absent)
  where
    go : Dec (c.replaced ≡ absent) → exists c ≡ false
    go (yes z) = rw (eq-eqb _ _ z)
    go (no n) = absurd (not_both (is_used v c.replaced) (f.replaced n) (used_kind v c.replaced e))

pub kind_exists : (h : Shape) (s : List ℕ) (c : Case) → Laid h s → (kind_of (view_of h s) c.replaced ≡ 0 → ⊥) → exists c ≡ true
unfolding kind_of view_of
kind_exists h s c l n = go (ℕ_discrete c.replaced absent)
  where
    go : Dec (c.replaced ≡ absent) → exists c ≡ true
    -- the number that names no inode is beyond every section
    go (yes z) = absurd (n (rw (le-ltb c.replaced h.inodes (omega (arith, l)))))
    go (no m) = rw (ne_eqb _ _ m)

-- a directory may take a missing name, or a directory's
module _ (v : View) (c : Case) (moves : is_directory v c.moved ≡ true) where
  pub fit_missing : exists c ≡ false → TypesFit v c
  fit_missing e = record { other = simp (moves, e); directory = simp moves; slashed = simp moves }

  pub fit_directories : is_directory v c.replaced ≡ true → TypesFit v c
  fit_directories e = record { other = simp (e, moves, and-false (exists c)); directory = simp moves; slashed = simp moves }

-- step 10 asks for entries where a directory is replaced
pub empty_missing : (v : View) (c : Case) → kind_of v c.replaced ≡ 0 → not_empty v c ≡ false
empty_missing v c e = simp (no_directory v c.replaced e)

pub empty_directory : (v : View) (c : Case) → is_directory v c.replaced ≡ true → not_empty v c ≡ has_entries v c.replaced
empty_directory v c e = simp e
