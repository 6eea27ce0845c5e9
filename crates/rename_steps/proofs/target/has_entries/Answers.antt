-- `rename_steps::target::has_entries` meets its contract. Assumes nothing.
use Rattle.std.proofs.Common.{rules}
use borrow.Author.Tests.{tests}
use Rattle.seq.proofs.ChainLaws.{range_any}
use Rattle.layout.specs.View.{view_of}
use Rattle.rename_steps.specs.Tests.{has_entries}
use Rattle.rename_steps.proofs.target.has_entries.Goals as goal

pub returns : goal.returns
unfolding has_entries view_of
returns c = range_any _ _ c.any.ensures.ran (search rules) (search (rules, tests))
