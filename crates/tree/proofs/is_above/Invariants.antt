-- `tree::is_above` keeps this in its loop. Assumes nothing.
-- Invariant: the way up from `at`, in the steps left, answers as the way up from i in all of them.
use mathlib.Core.Path.{◌≡◌}
use Prim.Native.Nat.{◌<◌, ◌-◌}
use Rattle.layout.specs.View.{view_of}
use Rattle.tree.specs.Tree.{reaches}
use Rattle.tree.proofs.is_above.Given as goal

abbrev pub invariant-loop : goal.invariant-loop
invariant-loop l =
    (l.at < l.image.shape.inodes)
    × (reaches (view_of l.image.shape l.image.bytes.now) l.goal (l.end - l.counter) l.at
    ≡ reaches (view_of l.image.shape l.image.bytes.now) l.goal l.image.shape.inodes l.i)
