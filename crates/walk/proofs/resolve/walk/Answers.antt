-- `walk::resolve::walk` meets its contract: the definition's bound and the facts of its ends are the answer's. Assumes nothing.
use Rattle.layout.specs.View.{view_of}
use Rattle.layout.proofs.ViewLaws.{readable_text}
use Rattle.walk.proofs.AnswerLaws.{walk_answered}
use Rattle.walk.proofs.resolve.walk.Goals as goal

pub returns : goal.returns
returns c =
    let args = c.args in
    let pre = c.requires in
    walk_answered (view_of args.tree.now.image.shape args.tree.now.image.bytes.now) args.who args.last args.current args.start args.path.now c.resolve.result
    (readable_text args.tree.now.image.shape args.tree.now.image.bytes.now c.args.tree.now.readable) pre c.resolve.ensures
