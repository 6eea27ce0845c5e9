-- `tallies::tops::tops` keeps this in its loops. Assumes nothing.
-- Invariant: each directory has come at least size steps up. Measure: what size lacks of the inodes.
use Prim.Native.Nat.{◌≤◌, ◌-◌}
use Rattle.layout.specs.View.{view_of}
use Rattle.tallies.specs.Rounds.{Climbed}
use Rattle.tallies.specs.Tallies.{above}
use Rattle.tallies.proofs.tops.tops.Given as goal

abbrev pub invariant-loop-size : goal.invariant-loop-size
invariant-loop-size l = (1 ≤ l.size) × Climbed (above (view_of l.image.shape l.image.bytes.now)) l.size l.image.shape.inodes l.to

abbrev pub decreases-loop-size : goal.decreases-loop-size
decreases-loop-size l = l.image.shape.inodes - l.size
