-- `names::bytes_good` meets its contract. Assumes nothing.
use Rattle.std.proofs.Common.{rules}
use borrow.Author.Tests.{tests}
use Rattle.seq.proofs.ChainLaws.{slice_all}
use Rattle.names.specs.Name.{name_byte, plain_name}
use Rattle.names.proofs.bytes_good.Goals as goal

pub returns : goal.returns
unfolding plain_name
returns c = slice_all name_byte 0 c.args.name.now c.all.ensures.ran (search rules) (search (rules, tests))
