-- The bodies in the order in which the code asks for them, by type and state. Assumes nothing.
use Rattle.std.specs.Prelude.{Bool, ◌&&◌, not, List, ℕ}
use Rattle.seq.specs.Search.{all}
use Rattle.layout.specs.declared.Shape.{Shape}
use Rattle.layout.specs.View.{view_of, is_directory}
use Rattle.names.specs.NameTests.{has_duplicate}
use Rattle.tree.specs.Inode.{inode_good}
use Rattle.consistency.specs.Entry.{entry_good}
use Rattle.consistency.specs.Others.{text_good, handle_good}

unfoldable pub bodies_checked : Shape → List ℕ → Bool
bodies_checked h s =
    is_directory (view_of h s) 0 && all (inode_good h s) h.inodes && all (entry_good h s) h.entries && not (has_duplicate (view_of h s))
    && all (text_good h s) h.texts && all (handle_good h s) h.handles
