-- An image on the way of a rename: as before or as after, record by record. Assumes nothing.
use Rattle.std.specs.Prelude.{◌≡◌, ◌≢◌, ◌⊎◌, List, ℕ, ◌<◌}
use Rattle.layout.specs.declared.Shape.{Shape}
use Rattle.layout.specs.Limits.{absent}
use Rattle.layout.specs.View.{view_of, inode_at, entry_at}
use Rattle.recounts.specs.declared.Move.{Move}
use Rattle.recounts.specs.Recount.{entries_after}
use Rattle.results.specs.Results.{moved_after, holder_after, replaced_after}

-- The image x is on the way of the rename on s: an entry off the two slots is as before, and an inode that the rename writes is as before
-- or as after.
pub record PartWay (h : Shape) (s x : List ℕ) (m : Move) : Type 0 where
  pub entry : (j : ℕ) → j < h.entries → j ≢ m.old → j ≢ m.new → entry_at h x j ≡ entry_at h s j
  pub moved : (inode_at h x m.moved ≡ inode_at h s m.moved) ⊎ (inode_at h x m.moved ≡ moved_after h s m)
  pub from : (inode_at h x m.from ≡ inode_at h s m.from) ⊎ (inode_at h x m.from ≡ holder_after h s m m.from)
  pub into : (inode_at h x m.into ≡ inode_at h s m.into) ⊎ (inode_at h x m.into ≡ holder_after h s m m.into)
  pub replaced : m.replaced ≢ absent → (inode_at h x m.replaced ≡ inode_at h s m.replaced) ⊎ (inode_at h x m.replaced ≡ replaced_after h s m)
  -- an inode has its type unless no entry is left that names it
  pub kind : (i : ℕ) → i < h.inodes → ((view_of h x).kind i ≡ (view_of h s).kind i) ⊎ (entries_after (view_of h s) m i ≡ 0)
