-- `recover::by_journal` meets its contract: the journal record is set, or the bodies decide. Assumes nothing.
use mathlib.Core.Path.{sym}
use lib.Seq.{length-take-le}
use Rattle.seq.specs.Truth.{fails, holds}
use Rattle.recover.proofs.Outs.{answers_pending, answers_unsound, answers_nothing}
use borrow.Author.Rules.{rules}
use Rattle.recover.proofs.by_journal.Goals as goal

pub slice_bounds-pending-end-then-not-journal_clear : goal.slice_bounds-pending-end-then-not-journal_clear
slice_bounds-pending-end-then-not-journal_clear c = sym (length-take-le _ _ c.requires.1)

pub pending-requires : goal.pending-requires
pending-requires c = (search rules, length-take-le _ _ c.requires.1, c.requires.2)

pub returns-then-not-journal_clear : goal.returns-then-not-journal_clear
returns-then-not-journal_clear c =
    let args = c.args in
    let set = fails c.journal_clear.ensures c.if-not-journal_clear.true-raw in
    answers_pending args.plan.now args.scratch.now args.image.now.bytes.now args.image.now.shape c.requires.1 set c.pending.ensures

pub returns-then-not-bodies_good : goal.returns-then-not-bodies_good
returns-then-not-bodies_good c =
    let args = c.args in
    let clear = holds c.journal_clear.ensures c.if-not-journal_clear.false-raw in
    let bad = fails c.bodies_good.ensures c.if-not-bodies_good.true-raw in
    answers_unsound args.plan.now args.scratch.now args.image.now.bytes.now args.image.now.shape c.requires.2 clear bad

pub returns : goal.returns
returns c =
    let clear = holds c.journal_clear.ensures c.if-not-journal_clear.false-raw in
    let good = holds c.bodies_good.ensures c.if-not-bodies_good.false-raw in
    let zeroed = c.clear.ensures in
    answers_nothing c.args.plan.now c.args.scratch.now c.args.image.now.bytes.now c.args.image.now.shape c.requires.2 clear good zeroed c.copy.ensures
