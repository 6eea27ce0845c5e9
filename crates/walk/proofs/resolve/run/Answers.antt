-- `walk::resolve::run` meets its contract. Assumes nothing.
use mathlib.Core.Path.{sym, ◌∙◌, refl}
use native.Mathlib.Omega.{arith}
use Rattle.layout.specs.View.{view_of}
use Rattle.component.specs.State.{position_of}
use Rattle.component.proofs.StateLaws.{turned_goes, turned_fit, fit_short}
use Rattle.walk.proofs.Bound.{after_is, budget_falls, ready_steps, ready_next, walk_goes, walk_ends}
use Rattle.walk.proofs.BoundStart.{ready_new}
use Rattle.walk.specs.Answer.{end_of}
use Rattle.walk.proofs.AnswerLaws.{refused_closes, found_closes}
use Rattle.walk.proofs.resolve.run.Goals as goal

pub loop-w-init : goal.loop-w-init
loop-w-init c =
    let args = c.args in
    let pre = c.requires in
    (pre.0, ready_new (position_of args.w) pre.0.more (fit_short args.w pre.0) pre.1 pre.2, refl)

pub step-r-requires : goal.step-r-requires
step-r-requires c =
    let l = ready_steps (position_of c.loop-w.w) c.loop-w.invariant.1 in
    (c.loop-w.invariant.0, omega arith)

pub loop-w-smaller : goal.loop-w-smaller
loop-w-smaller c =
    let args = c.args in
    let loop' = c.loop-w in
    let step = c.step-r in
    let e = turned_goes step.result _ step.ensures c.in-Goes.is in
    budget_falls (position_of loop'.w) (position_of step.result.walk) loop'.invariant.0.more
    (after_is (view_of args.tree.now.image.shape args.tree.now.image.bytes.now) args.who args.last (position_of loop'.w) _ e)

pub loop-w-preserved : goal.loop-w-preserved
loop-w-preserved c =
    let args = c.args in
    let loop' = c.loop-w in
    let step = c.step-r in
    let e = turned_goes step.result _ step.ensures c.in-Goes.is in (
      turned_fit step.result _ step.ensures c.in-Goes.is,
      ready_next (view_of args.tree.now.image.shape args.tree.now.image.bytes.now) args.who args.last (position_of loop'.w) (position_of step.result.walk) loop'.invariant.1 e,
      sym (walk_goes (view_of args.tree.now.image.shape args.tree.now.image.bytes.now) args.who args.last (position_of loop'.w) (position_of step.result.walk) loop'.invariant.1 e) ∙ loop'.invariant.2,
    )

pub returns-in-Refuses : goal.returns-in-Refuses
returns-in-Refuses c =
    let args = c.args in
    let loop' = c.loop-w in
    let step = c.step-r in
    let k = refused_closes step.result _ c.ended.result step.ensures _ c.in-Refuses.is c.ended.ensures in
    record {
      is = sym (walk_ends (view_of args.tree.now.image.shape args.tree.now.image.bytes.now) args.who args.last (position_of loop'.w) (end_of c.ended.result) loop'.invariant.1 k.is) ∙ loop'.invariant.2;
      range = k.range;
    }

pub returns-in-Finds : goal.returns-in-Finds
returns-in-Finds c =
    let args = c.args in
    let loop' = c.loop-w in
    let step = c.step-r in
    let k = found_closes step.result _ c.ended-in-Finds.result step.ensures _ c.in-Finds.is c.ended-in-Finds.ensures in
    record {
      is = sym (walk_ends (view_of args.tree.now.image.shape args.tree.now.image.bytes.now) args.who args.last (position_of loop'.w) (end_of c.ended-in-Finds.result) loop'.invariant.1 k.is) ∙ loop'.invariant.2;
      range = k.range;
    }
