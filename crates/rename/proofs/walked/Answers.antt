-- `rename::walked` meets its contract: a walk refuses, or the steps answer. Assumes nothing.
use Rattle.std.proofs.Common.{Ok, refl, ap, subst}
use Rattle.layout.specs.Code.{code}
use Rattle.walk.specs.Answer.{RangedIn}
use Rattle.refusals.specs.Answered.{answered}
use Rattle.rename.proofs.Outs.{answers_as}
use Rattle.rename.proofs.WalkedLaws.{image_readable, refused_walk, walked_case, steps_refuse, case_same, walked_move, found_name, steps_planned, walked_exchange, steps_exchange}
use Rattle.rename.proofs.walked.Goals as goal

pub invariant_of-tree : goal.invariant_of-tree
invariant_of-tree c = record { readable = image_readable c.requires }

pub both-walks-requires : goal.both-walks-requires
both-walks-requires c = c.requires.good

pub returns-in-Err : goal.returns-in-Err
returns-in-Err c = answers_as (refused_walk c.requires c.both-walks.ensures _ c.in-Err.is) c.counted.ensures

pub judge-requires : goal.judge-requires
judge-requires c = walked_case c.requires c.both-walks.ensures (ap code c.in-Ok.is) c.case_of-c.ensures

pub returns-in-Err-judge : goal.returns-in-Err-judge
returns-in-Err-judge c =
    answers_as (steps_refuse c.requires c.both-walks.ensures (ap code c.in-Ok.is) c.case_of-c.ensures c.in-Err-judge.ensures _ refl) c.counted-in-Err-judge.ensures

pub write-rows-requires : goal.write-rows-requires
write-rows-requires c =
    let both = c.both-walks.ensures in
    let none = ap code c.in-Ok.is in
    let judged = c.in-Ok-Planned.ensures in
    let planned = ap (λ v. answered (Ok v)) c.in-Ok-Planned.field-0-is in (
      c.requires.long,
      subst (λ f. RangedIn c.both-walks.result.new.path f) c.in-Ok.is both.new.range,
      walked_move c.requires both none c.case_of-c.ensures judged planned,
      found_name c.requires both none c.case_of-c.ensures judged planned c.in-Ok.is,
    )

pub exchange-rows-requires : goal.exchange-rows-requires
exchange-rows-requires c =
    (c.requires.long, walked_exchange c.requires c.both-walks.ensures (ap code c.in-Ok.is) c.case_of-c.ensures c.in-Ok-Exchanged.ensures (ap (λ v. answered (Ok v)) c.in-Ok-Exchanged.field-0-is))

pub returns-in-Ok-Same : goal.returns-in-Ok-Same
returns-in-Ok-Same c =
    answers_as (case_same c.requires c.both-walks.ensures (ap code c.in-Ok.is) c.case_of-c.ensures c.in-Ok-Same.ensures (ap (λ v. answered (Ok v)) c.in-Ok-Same.field-0-is) _ c.clear.ensures) c.counted-in-Ok-Same.ensures

pub returns-in-Ok-Planned : goal.returns-in-Ok-Planned
returns-in-Ok-Planned c =
    answers_as (steps_planned c.requires c.both-walks.ensures (ap code c.in-Ok.is) c.case_of-c.ensures c.in-Ok-Planned.ensures (ap (λ v. answered (Ok v)) c.in-Ok-Planned.field-0-is) c.in-Ok.is _ _ c.write-rows.ensures)
    c.counted-in-Ok-Planned.ensures

pub returns-in-Ok-Exchanged : goal.returns-in-Ok-Exchanged
returns-in-Ok-Exchanged c =
    answers_as (steps_exchange c.requires c.both-walks.ensures (ap code c.in-Ok.is) c.case_of-c.ensures c.in-Ok-Exchanged.ensures (ap (λ v. answered (Ok v)) c.in-Ok-Exchanged.field-0-is) _ _ c.exchange-rows.ensures)
    c.counted-in-Ok-Exchanged.ensures
