-- `rename::asked` meets its contract: the records, the request and its flags. Assumes nothing.
use Rattle.std.proofs.Common.{sym}
use Rattle.seq.specs.Truth.{fails, holds}
use Rattle.layout.proofs.CodeLaws.{refusal_numbered}
use Rattle.rename.proofs.Outs.{answers_as, answers_records, answers_request, answers_flags}
use Rattle.rename.proofs.asked.Goals as goal

pub returns-in-Err : goal.returns-in-Err
returns-in-Err c =
    let args = c.args in
    answers_as (answers_records args.image.now.bytes.now args.plan.now args.q args.old.now args.new.now c.requires.0 args.image.now.shape c.requires.1 _ c.in-Err.ensures (refusal_numbered _))
    c.refused.ensures

pub returns-then-not-good : goal.returns-then-not-good
returns-then-not-good c =
    let args = c.args in
    answers_as (answers_request args.image.now.bytes.now args.plan.now args.q args.old.now args.new.now c.requires.0 args.image.now.shape c.requires.1 (sym c.in_default.ensures) (fails c.good.ensures c.if-not-good.true-raw)) c.refused-then-not-good.ensures

pub returns-then-not-good-2 : goal.returns-then-not-good-2
returns-then-not-good-2 c =
    let args = c.args in
    let good = holds c.good.ensures c.if-not-good.false-raw in
    answers_as (answers_flags args.image.now.bytes.now args.plan.now args.q args.old.now args.new.now c.requires.0 args.image.now.shape c.requires.1 (sym c.in_default.ensures) good (fails c.good-2.ensures c.if-not-good-2.true-raw))
    c.refused-then-not-good-2.ensures

pub walked-requires : goal.walked-requires
walked-requires c = record {
  long = c.requires.0;
  read = c.requires.1;
  fine = sym c.in_default.ensures;
  good = holds c.good.ensures c.if-not-good.false-raw;
  flags = holds c.good-2.ensures c.if-not-good-2.false-raw;
}
