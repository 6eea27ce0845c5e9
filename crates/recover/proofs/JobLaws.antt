-- The ways out of the job that recovers an image. Assumes nothing.
use Rattle.std.proofs.Math.Path.{◌≡◌}
use Rattle.std.proofs.Common.{ap, ◌∙◌}
use Rattle.std.specs.Prelude.{◌⊎◌, Bool, true, false, cond, ℕ, ◌≤◌, ◌<◌, ltb}
use Rattle.std.proofs.Math.Logic.{⊎_elim}
use Rattle.std.proofs.Math.Bool.{or-true}
use mathlib.Core.List.{List, []}
use Rattle.std.proofs.Math.Option.{Option, none, some, some-injective}
use native.Mathlib.Omega.{arith}
use Rattle.std.proofs.Math.ListN.{length}
use borrow.Author.Tests.{le-ltb, lt-ltb}
use Rattle.layout.specs.declared.Shape.{Shape}
use Rattle.layout.specs.Errno.{short_buffer, inconsistent}
use Rattle.layout.specs.Facts.{Read}
use Rattle.layout.specs.Contents.{layout_good}
use Rattle.consistency.specs.Sound.{journal_clear}
use Rattle.consistency.specs.Consistent.{consistent}
use Rattle.plan.specs.Form.{plan_bytes}
use Rattle.plan.specs.Write.{Write}
use Rattle.recover.specs.Recover.{pending_rows, recover}
use Rattle.recover.specs.Job.{by_journal, by_rows, done, recovered, refused}

module _ (plan scratch x : List ℕ) where
  -- ---- the ways out of the job

  -- buffers that are too short are refused
  pub recovered_short : (length plan < plan_bytes) ⊎ (length scratch < length x) → recovered plan scratch x ≡ refused plan scratch x short_buffer
  unfolding recovered
  recovered_short = ⊎_elim (λ (l : length plan < plan_bytes). rw (lt-ltb _ _ l))
      (λ (l : length scratch < length x). rw (lt-ltb _ _ l, or-true (ltb (length plan) plan_bytes)))

  -- with buffers that are long enough
  module _ (long : plan_bytes ≤ length plan) (room : length x ≤ length scratch) where
    pub recovered_layout : layout_good x ≡ false → recovered plan scratch x ≡ refused plan scratch x inconsistent
    unfolding recovered
    recovered_layout bad = rw (le-ltb _ _ long, le-ltb _ _ room, bad)

    pub recovered_read : (h : Shape) → Read x h → recovered plan scratch x ≡ by_journal plan scratch x h
    unfolding recovered
    recovered_read h read = rw (le-ltb _ _ long, le-ltb _ _ room, read.good, ← read.shape)

    -- where recovery has rows, so does the job
    pub recovered_done : (h : Shape) (ws : List Write) → Read x h → recover h x ≡ some ws → recovered plan scratch x ≡ done plan scratch x h ws
    unfolding recover
    recovered_done h ws read e = recovered_read h read ∙ go (journal_clear h x) (consistent x) (pending_rows h x) e
      where
        differ : {ws : List Write} → ◌≡◌ {A = Option (List Write)} none (some ws) → ⊥
        differ e = let z : ◌≡◌ {A = ℕ} 0 1 = cc in omega arith

        go : (a b : Bool) (o : Option (List Write)) → cond a (cond b (some []) none) o ≡ some ws
            → cond a (cond b (done plan scratch x h []) (refused plan scratch x inconsistent)) (by_rows plan scratch x h o) ≡ done plan scratch x h ws
        go true true o e = ap (done plan scratch x h) (some-injective _ _ e)
        go true false o e = absurd (differ e)
        go false b none e = absurd (differ e)
        go false b (some us) e = ap (done plan scratch x h) (some-injective _ _ e)
