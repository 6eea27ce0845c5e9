-- `inodes::symlink_good` meets its contract. Assumes nothing.
use Rattle.std.proofs.Common.{rules}
use Rattle.layout.specs.View.{view_of}
use Rattle.tree.specs.Inode.{symlink_good}
use Rattle.tree.specs.Tree.{text_shared}
use Rattle.tallies.proofs.TalliesLaws.{unshared}
use Rattle.inodes.proofs.symlink_good.Goals as goal

pub returns-then-text_used : goal.returns-then-text_used
unfolding symlink_good text_shared view_of
returns-then-text_used c = search (rules, unshared)
