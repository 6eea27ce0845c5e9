-- `inodes::all_good` meets its contract. Assumes nothing.
use Rattle.std.proofs.Common.{rules}
use borrow.Author.Tests.{tests}
use Rattle.seq.proofs.ChainLaws.{range_all}
use Rattle.tallies.proofs.TalliesLaws.{blank}
use Rattle.inodes.proofs.all_good.Goals as goal

pub counts-requires : goal.counts-requires
counts-requires c = (blank 513, blank 513)

pub returns : goal.returns
returns c = range_all _ _ c.all.ensures.ran (search rules) (search (rules, tests))
