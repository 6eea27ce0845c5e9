-- `tree::child_directories` meets its contract. Assumes nothing.
use Rattle.std.proofs.Common.{rules, arith, ◌≡◌}
use borrow.Author.Tests.{tests}
use Rattle.seq.specs.Search.{count}
use Rattle.seq.proofs.ChainLaws.{range_count}
use Rattle.seq.proofs.SearchLaws.{count_le}
use Rattle.layout.specs.View.{view_of}
use Rattle.tree.specs.Tree.{child_directories, holds_directory}
use Rattle.tree.proofs.child_directories.Goals as goal

pub returns : goal.returns
unfolding child_directories view_of
returns c =
    let held = holds_directory (view_of c.args.image.now.shape c.args.image.now.bytes.now) c.args.i in
    let n = c.args.image.now.shape.entries in
    let counted : c.count.result ≡ count held n =
    range_count _ _ c.count.ensures.ran c.filter.ensures.source c.filter.ensures.closure (search (rules, tests)) in
    (counted, omega (arith, count_le held n, c.args.image.now.laid.entries_most))
