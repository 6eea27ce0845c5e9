-- `rename_steps::target::is_opened` meets its contract. Assumes nothing.
use Rattle.std.proofs.Common.{rules}
use borrow.Author.Tests.{tests}
use Rattle.seq.proofs.ChainLaws.{range_any}
use Rattle.layout.specs.View.{view_of}
use Rattle.rename_steps.specs.Tests.{is_opened}
use Rattle.rename_steps.proofs.target.is_opened.Goals as goal

pub returns : goal.returns
unfolding is_opened view_of
returns c = range_any _ _ c.any.ensures.ran (search rules) (search (rules, tests))
