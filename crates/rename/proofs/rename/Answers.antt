-- `rename::rename` meets its contract: a short plan and a bad layout come first. Assumes nothing.
use mathlib.Core.Path.{subst}
use Rattle.layout.proofs.ContentsLaws.{contents_bad, contents_good}
use Rattle.rename.proofs.Outs.{answers_as, answers_short, answers_layout}
use Rattle.rename.specs.Renamed.{told}
use Rattle.rename.specs.Answers.{RenameAnswers}
use Rattle.rename.proofs.rename.Goals as goal

pub returns-then-plan-lt-BYTES : goal.returns-then-plan-lt-BYTES
returns-then-plan-lt-BYTES c =
    let args = c.args in
    answers_as (answers_short args.image.now args.plan.now args.q args.old.now args.new.now c.if-plan-lt-BYTES.true) c.refused.ensures

pub returns-in_default : goal.returns-in_default
returns-in_default c =
    let args = c.args in
    let bad = contents_bad _ c.in_default.ensures in
    answers_as (answers_layout args.image.now args.plan.now args.q args.old.now args.new.now c.if-plan-lt-BYTES.false bad) c.refused-in_default.ensures

pub asked-requires : goal.asked-requires
asked-requires c = (c.if-plan-lt-BYTES.false, rw c.in-Some.ensures.1 (contents_good _ _ c.in-Some.ensures.0))

pub returns : goal.returns
returns c =
    let args = c.args in
    subst (λ s. RenameAnswers s args.plan.now args.q args.old.now args.new.now (told c.asked.result) c.asked.new.plan) c.in-Some.ensures.1 c.asked.ensures
