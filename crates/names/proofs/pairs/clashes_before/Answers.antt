-- `names::pairs::clashes_before` meets its contract. Assumes nothing.
use Rattle.std.proofs.Common.{rules}
use borrow.Author.Tests.{tests}
use Rattle.seq.proofs.ChainLaws.{range_any}
use Rattle.layout.specs.View.{view_of}
use Rattle.names.proofs.pairs.clashes_before.Goals as goal

pub returns : goal.returns
unfolding view_of
returns c = range_any _ _ c.any.ensures.ran (search rules) (search (rules, tests))
