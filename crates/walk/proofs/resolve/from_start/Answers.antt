-- `walk::resolve::from_start` meets its contract. Assumes nothing.
use mathlib.Core.Path.{sym, ◌∙◌, ap, subst}
use Rattle.layout.specs.Code.{number}
use Rattle.layout.specs.View.{view_of}
use Rattle.layout.specs.Limits.{step_limit}
use Rattle.component.specs.State.{position_of, Fit}
use Rattle.component.proofs.StateLaws.{begins_at, begins_fit}
use Rattle.walk.specs.Start.{begins}
use Rattle.walk.specs.Walk.{walk_from, begun}
use Rattle.walk.proofs.WalkLaws.{begun_bare, begun_walks}
use Rattle.walk.proofs.AnswerLaws.{ended_as}
use Rattle.walk.proofs.resolve.from_start.Goals as goal

pub returns-then-is_bare : goal.returns-then-is_bare
returns-then-is_bare c =
    let args = c.args in
    let v = view_of args.tree.now.image.shape args.tree.now.image.bytes.now in
    ended_as _ _ _ (c.stop-then-is_bare.ensures number)
    (begun_bare v args.who args.last (begins args.start) _ _ args.path.now (ap begins c.in-Some.is) (sym c.is_bare.ensures ∙ c.if-is_bare.true))

pub run-requires : goal.run-requires
run-requires c =
    let args = c.args in
    let pre = c.requires in
    let more = sym c.is_bare.ensures ∙ c.if-is_bare.false in
    let b = c.begin-w.ensures in
    (subst Fit (sym b) (begins_fit args.path.now _ _ pre more), rw b, rw b)

pub returns-in-None : goal.returns-in-None
returns-in-None c =
    let args = c.args in
    ended_as _ _ _ (c.stop.ensures number)
    (ap (λ x. begun (view_of args.tree.now.image.shape args.tree.now.image.bytes.now) args.who args.last (begins x) args.path.now) c.in-None.is)

pub returns-else-is_bare : goal.returns-else-is_bare
returns-else-is_bare c =
    let args = c.args in
    let v = view_of args.tree.now.image.shape args.tree.now.image.bytes.now in
    let is-bare = c.is_bare in
    let if1 = c.if-is_bare in
    let p = ap position_of c.begin-w.ensures ∙ begins_at args.path.now _ _ in
    ended_as _ _ _ c.run.ensures
    (begun_walks v args.who args.last (begins args.start) _ _ args.path.now (ap begins c.in-Some.is) (sym is-bare.ensures ∙ if1.false)
    ∙ sym (ap (λ w. walk_from v args.who args.last step_limit w) p))
