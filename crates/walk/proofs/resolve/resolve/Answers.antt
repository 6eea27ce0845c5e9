-- `walk::resolve::resolve` meets its contract. Assumes nothing.
use mathlib.Core.Path.{sym, ◌∙◌, ap}
use Rattle.layout.specs.Code.{number}
use Rattle.layout.specs.View.{view_of}
use Rattle.walk.specs.Walk.{begun}
use Rattle.walk.proofs.WalkLaws.{walk_empty, walk_long, walk_begins}
use Rattle.walk.proofs.AnswerLaws.{ended_as}
use Rattle.walk.proofs.resolve.resolve.Goals as goal

pub returns-then-path-eq0 : goal.returns-then-path-eq0
returns-then-path-eq0 c =
    let args = c.args in
    ended_as _ _ _ (c.stop.ensures number) (walk_empty (view_of args.tree.now.image.shape args.tree.now.image.bytes.now) args.who args.last args.current args.start args.path.now c.if-path-eq0.true)

pub returns-then-path-gt-PATH_LIMIT : goal.returns-then-path-gt-PATH_LIMIT
returns-then-path-gt-PATH_LIMIT c =
    let args = c.args in
    ended_as _ _ _ (c.stop-then-path-gt-PATH_LIMIT.ensures number)
    (walk_long (view_of args.tree.now.image.shape args.tree.now.image.bytes.now) args.who args.last args.current args.start args.path.now c.if-path-eq0.false c.if-path-gt-PATH_LIMIT.true)

pub returns : goal.returns
returns c =
    let args = c.args in
    let v = view_of args.tree.now.image.shape args.tree.now.image.bytes.now in
    ended_as _ _ _ c.from_start.ensures
    (walk_begins (view_of args.tree.now.image.shape args.tree.now.image.bytes.now) args.who args.last args.current args.start args.path.now c.if-path-eq0.false c.if-path-gt-PATH_LIMIT.false
    ∙ sym (ap (λ x. begun v args.who args.last x args.path.now) c.locate-from.ensures))
