-- `walk::both::both` meets its contract. Assumes nothing.
use Rattle.std.proofs.Common.{sym, ap, subst, ◌∙◌}
use Rattle.layout.specs.Code.{number, code}
use Rattle.layout.specs.View.{view_of}
use Rattle.layout.proofs.CodeLaws.{refusal_numbered}
use Rattle.walk.specs.Walk.{halt}
use Rattle.walk.specs.Answer.{Ended}
use Rattle.paths.proofs.RequestLaws.{good_old, good_new}
use Rattle.walk.proofs.BothLaws.{both_refused, both_walked}
use Rattle.walk.proofs.both.both.Goals as goal

pub walk-first-requires : goal.walk-first-requires
walk-first-requires c =
    let args = c.args in
    let pre = c.requires in
    (good_old (view_of args.tree.now.image.shape args.tree.now.image.bytes.now) args.q args.old.now args.new.now pre)

pub returns-in-Err : goal.returns-in-Err
returns-in-Err c =
    let args = c.args in
    both_refused (view_of args.tree.now.image.shape args.tree.now.image.bytes.now) args.q args.old.now args.new.now _ c.stop.result c.walk-first.ensures
    (λ none. refusal_numbered _ (sym (ap code c.in-Err.is) ∙ none))
    (subst (λ n. Ended c.stop.result (halt n)) (sym (ap code c.in-Err.is)) (c.stop.ensures number))

pub walk-second-requires : goal.walk-second-requires
walk-second-requires c =
    let args = c.args in
    let pre = c.requires in
    (good_new (view_of args.tree.now.image.shape args.tree.now.image.bytes.now) args.q args.old.now args.new.now pre)

pub returns : goal.returns
returns c =
    let args = c.args in
    both_walked (view_of args.tree.now.image.shape args.tree.now.image.bytes.now) args.q args.old.now args.new.now _ c.walk-second.result c.walk-first.ensures
    (ap code c.in_default.is) c.walk-second.ensures
