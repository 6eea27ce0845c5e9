-- `layout::bytes::no_zero` meets its contract. Assumes nothing.
use Rattle.std.specs.Prelude.{not, eqb}
use Rattle.std.proofs.Common.{rules}
use borrow.Author.Tests.{tests}
use Rattle.seq.specs.Bytes.{no_zero}
use Rattle.seq.proofs.ChainLaws.{slice_all}
use Rattle.layout.proofs.bytes.no_zero.Goals as goal

pub returns : goal.returns
unfolding no_zero
returns c = slice_all (λ b. not (eqb b 0)) 0 c.args.s.now c.all.ensures.ran (search rules) (search (rules, tests))
