-- `layout::compare::last` meets its contract. Assumes nothing.
use native.Mathlib.Omega.{arith}
use borrow.Author.Rules.{rules}
use Rattle.seq.specs.Bytes.{part}
use Rattle.seq.proofs.CompareLaws.{nothing_left, last_decides}
use Rattle.layout.proofs.compare.last.Goals as goal

pub returns-then-at-n : goal.returns-then-at-n
returns-then-at-n c =
    let args = c.args in
    let pre = c.requires in
    nothing_left args.a.now args.b.now pre.0 args.whole pre.1 pre.2 c.if-at-n.true

pub same_short-requires : goal.same_short-requires
same_short-requires c = (omega arith, omega arith, search rules, omega arith)

pub returns : goal.returns
unfolding part
returns c =
    let args = c.args in
    let pre = c.requires in
    last_decides args.a.now args.b.now pre.0 args.whole pre.1 pre.2 c.same_short.result c.if-at-n.false c.same_short.ensures
