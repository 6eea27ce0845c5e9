-- `paths::portable::is_portable` meets its contract. Assumes nothing.
use Rattle.std.proofs.Common.{rules}
use borrow.Author.Tests.{tests}
use Rattle.seq.proofs.ChainLaws.{slice_all}
use Rattle.paths.specs.Portable.{is_portable_byte, is_portable}
use Rattle.paths.proofs.portable.is_portable.Goals as goal

pub returns : goal.returns
unfolding is_portable
returns c = slice_all is_portable_byte 0 c.args.name.now c.all.ensures.ran (search rules) (search (rules, tests))
