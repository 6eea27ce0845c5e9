-- `paths::find::held_from` keeps this in its loop. Assumes nothing.
-- Invariant: a search of directory d that has come to the first slot may go on at j.
use Prim.Native.Nat.{◌≤◌}
use Rattle.layout.specs.View.{view_of}
use Rattle.paths.specs.LookupFacts.{Skips}
use Rattle.paths.proofs.find.held_from.Given as goal

abbrev pub invariant-loop-j : goal.invariant-loop-j
invariant-loop-j l = (l.from ≤ l.j) × (l.j ≤ l.n) × Skips (view_of l.image.shape l.image.bytes.now) l.d l.from l.j
