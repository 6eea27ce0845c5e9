-- `layout::compare::same_short` meets its contract. Assumes nothing.
use Rattle.std.proofs.Common.{sym, ◌∙◌, arith}
use Rattle.seq.specs.Bytes.{part}
use Rattle.seq.proofs.CompareLaws.{ends_differ, ends_decide}
use Rattle.seq.proofs.SliceLaws.{equal_pointwise}
use Rattle.layout.proofs.compare.same_short.Goals as goal

pub returns-then-same_four : goal.returns-then-same_four
returns-then-same_four c =
    let args = c.args in
    let pre = c.requires in
    c.same_four-then-same_four.ensures
    ∙ ends_decide args.a.now args.b.now args.at args.n 4 (omega arith) (omega arith) pre.2 pre.3 (sym c.same_four.ensures ∙ c.if-same_four.true)

pub returns-else-same_four : goal.returns-else-same_four
returns-else-same_four c =
    let args = c.args in
    let fails = c.if-same_four.false in
    fails ∙ sym (ends_differ args.a.now args.b.now args.at args.n 4 (omega arith) (sym c.same_four.ensures ∙ fails))

pub returns-then-same_two : goal.returns-then-same_two
returns-then-same_two c =
    let args = c.args in
    let pre = c.requires in
    c.same_two-then-same_two.ensures
    ∙ ends_decide args.a.now args.b.now args.at args.n 2 (omega arith) (omega arith) pre.2 pre.3 (sym c.same_two.ensures ∙ c.if-same_two.true)

pub returns-else-same_two : goal.returns-else-same_two
returns-else-same_two c =
    let args = c.args in
    let fails = c.if-same_two.false in
    fails ∙ sym (ends_differ args.a.now args.b.now args.at args.n 2 (omega arith) (sym c.same_two.ensures ∙ fails))

pub returns-else-n-at-ge2 : goal.returns-else-n-at-ge2
unfolding part
returns-else-n-at-ge2 c = c.eq.ensures ∙ equal_pointwise _ _
