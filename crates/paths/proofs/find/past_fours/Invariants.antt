-- `paths::find::past_fours` keeps this in its loops. Assumes nothing.
-- Invariant: a search of directory d that has come to the first slot may go on at j. Measure: the entries left.
use Prim.Native.Nat.{◌≤◌, ◌-◌}
use Rattle.layout.specs.View.{view_of}
use Rattle.paths.specs.LookupFacts.{Skips}
use Rattle.paths.proofs.find.past_fours.Given as goal

abbrev pub invariant-loop-j : goal.invariant-loop-j
invariant-loop-j l = (l.from ≤ l.j) × (l.j ≤ l.image.shape.entries) × Skips (view_of l.image.shape l.image.bytes.now) l.d l.from l.j

abbrev pub decreases-loop-j : goal.decreases-loop-j
decreases-loop-j l = l.image.shape.entries - l.j
