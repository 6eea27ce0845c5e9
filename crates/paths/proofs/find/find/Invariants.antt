-- `paths::find::find` keeps this in its loops. Assumes nothing.
-- Invariant: no entry before j has the name in directory d. Measure: the entries left.
use mathlib.Core.Path.{◌≡◌}
use mathlib.Core.Bool.{false}
use Prim.Native.Nat.{◌≤◌, ◌-◌}
use Rattle.seq.specs.Search.{any}
use Rattle.layout.specs.View.{view_of}
use Rattle.paths.specs.Lookup.{is_named}
use Rattle.paths.proofs.find.find.Given as goal

abbrev pub invariant-loop-j : goal.invariant-loop-j
invariant-loop-j l = (l.j ≤ l.n) × (any (is_named (view_of l.tree.image.shape l.tree.image.bytes.now) l.d l.name) l.j ≡ false)

abbrev pub decreases-loop-j : goal.decreases-loop-j
decreases-loop-j l = l.n - l.j
