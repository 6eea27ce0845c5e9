-- The finished image of an exchange, record by record in bytes. Assumes nothing.
use Rattle.std.specs.Prelude.{◌≡◌, ◌≢◌, List, ℕ, ◌+◌, ◌<◌}
use Rattle.seq.specs.Bytes.{part}
use Rattle.layout.specs.declared.Shape.{Shape}
use Rattle.layout.specs.View.{view_of, inode_at, entry_at, text_at, handle_at}
use Rattle.encode.specs.Entry.{retargeted}
use Rattle.tree.specs.Tree.{child_directories}
use Rattle.edits.specs.Kinds.{IsDirectory}

-- One side: slot `here` of directory `own` named `inode` and names `other`, the inode of the other side; `there` is the directory of that side.
pub record SideWritten (h : Shape) (s t : List ℕ) (here inode own other there : ℕ) : Type 0 where
  pub slot : entry_at h t here ≡ retargeted other (entry_at h s here)
  -- a directory gets its new parent, and the inode keeps its link count
  pub reparented : IsDirectory (view_of h s) inode → (view_of h t).field inode ≡ there
  pub links : (view_of h t).links inode ≡ (view_of h s).links inode
  -- the side's directory is counted afresh
  pub recounted : (view_of h t).links own ≡ 2 + child_directories (view_of h t) own

-- Every record of the finished image t, by the records of the image s before. The facts are those of records in range: past its section a view reads the next one.
-- The times of an inode stand in no rule.
pub record ExchangeWritten (h : Shape) (s t : List ℕ) (old new moved from replaced into : ℕ) : Type 0 where
  pub first : SideWritten h s t old moved from replaced into
  pub second : SideWritten h s t new replaced into moved from
  -- all other entries are as before
  pub entry : (j : ℕ) → j < h.entries → j ≢ old → j ≢ new → entry_at h t j ≡ entry_at h s j
  -- an inode is as before, or has its first twelve bytes as before, and its field too unless it is a directory that changed sides
  pub inode : (i : ℕ) → i < h.inodes → i ≢ moved → i ≢ from → i ≢ into → i ≢ replaced → inode_at h t i ≡ inode_at h s i
  pub head : (i : ℕ) → i < h.inodes → part (inode_at h t i) 0 12 ≡ part (inode_at h s i) 0 12
  pub field : (i : ℕ) → i < h.inodes → (i ≡ moved → IsDirectory (view_of h s) moved → ⊥) → (i ≡ replaced → IsDirectory (view_of h s) replaced → ⊥)
      → (view_of h t).field i ≡ (view_of h s).field i
  -- texts and handles are as before
  pub text : (x : ℕ) → x < h.texts → text_at h t x ≡ text_at h s x
  pub handle : (n : ℕ) → n < h.handles → handle_at h t n ≡ handle_at h s n
