-- `walk::resolve::run` keeps this in its loops. Assumes nothing.
-- Invariant: the position fits and is ready for a step, and the walk from it ends as the walk from the first. Measure: the budget.
use mathlib.Core.Path.{◌≡◌}
use Rattle.layout.specs.View.{view_of}
use Rattle.layout.specs.Limits.{step_limit}
use Rattle.component.specs.State.{position_of, Fit}
use Rattle.walk.specs.Walk.{walk_from}
use Rattle.walk.specs.Budget.{budget, Ready}
use Rattle.walk.proofs.resolve.run.Given as goal

abbrev pub invariant-loop-w : goal.invariant-loop-w
invariant-loop-w l =
    Fit l.w × Ready (position_of l.w) × (walk_from (view_of l.tree.image.shape l.tree.image.bytes.now) l.who l.last step_limit (position_of l.w) ≡ walk_from (view_of l.tree.image.shape l.tree.image.bytes.now) l.who l.last step_limit (position_of l.initial.w))

abbrev pub decreases-loop-w : goal.decreases-loop-w
decreases-loop-w l = budget (position_of l.w)
