-- `names::pairs::has_duplicate` meets its contract. Assumes nothing.
use Rattle.std.proofs.Common.{rules}
use borrow.Author.Tests.{tests}
use Rattle.seq.proofs.ChainLaws.{range_any}
use Rattle.layout.specs.View.{view_of}
use Rattle.names.specs.NameTests.{has_duplicate}
use Rattle.names.proofs.pairs.has_duplicate.Goals as goal

pub returns : goal.returns
unfolding has_duplicate view_of
returns c = range_any _ _ c.any.ensures.ran (search rules) (search (rules, tests))
