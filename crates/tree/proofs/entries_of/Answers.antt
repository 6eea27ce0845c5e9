-- `tree::entries_of` meets its contract. Assumes nothing.
use Rattle.std.proofs.Common.{rules}
use borrow.Author.Tests.{tests}
use Rattle.seq.proofs.ChainLaws.{range_count}
use Rattle.layout.specs.View.{view_of}
use Rattle.tree.specs.Tree.{entries_of}
use Rattle.tree.proofs.entries_of.Goals as goal

pub returns : goal.returns
unfolding entries_of view_of
returns c = range_count _ _ c.count.ensures.ran c.filter.ensures.source c.filter.ensures.closure (search (rules, tests))
