-- `recounts::count_edited` keeps this in its loop. Assumes nothing.
-- Invariant: found is how many numbers before j count as edited, whatever the call tells of each, so at most j.
use Rattle.std.specs.Prelude.{◌≡◌, Bool, false, ℕ, ◌≤◌}
use Rattle.seq.specs.Search.{count}
use Rattle.recounts.specs.Recount.{edited}
use Rattle.recounts.specs.Stands.{Stands}
use Rattle.recounts.proofs.count_edited.Given as goal

abbrev pub invariant-loop-j : goal.invariant-loop-j
invariant-loop-j g l =
    (l.found ≤ l.j)
    × ((p : ℕ → Bool) → Stands (goal.F-post g l.counts) p l.n l.stand → l.found ≡ count (λ j. edited l.m j false l.made (p j)) l.j)
