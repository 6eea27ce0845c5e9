-- `paths::find::run_from` keeps this in its loop. Assumes nothing.
-- Invariant: no entry before j has the name in directory d.
use mathlib.Core.Path.{◌≡◌}
use mathlib.Core.Bool.{false}
use Prim.Native.Nat.{◌≤◌}
use Rattle.seq.specs.Search.{any}
use Rattle.layout.specs.View.{view_of}
use Rattle.paths.specs.Lookup.{is_named}
use Rattle.paths.proofs.find.run_from.Given as goal

abbrev pub invariant-loop-j : goal.invariant-loop-j
invariant-loop-j l = (l.from ≤ l.j) × (l.j ≤ l.n) × (any (is_named (view_of l.tree.image.shape l.tree.image.bytes.now) l.d l.name) l.j ≡ false)
