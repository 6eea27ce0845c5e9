-- An exchange over views: what a plan that was not refused knows of the image, and what the finished image has. Assumes nothing.
-- Slot `old` of directory `from` names inode `moved`, slot `new` of directory `into` names `replaced`; afterwards each slot names the other's inode.
use Rattle.std.specs.Prelude.{◌≡◌, ◌≢◌, ℕ, ◌+◌, ◌<◌}
use Rattle.seq.specs.Climb.{up}
use Rattle.layout.specs.Limits.{link_limit}
use Rattle.layout.specs.View.{View}
use Rattle.tree.specs.Tree.{child_directories}
use Rattle.edits.specs.Kinds.{IsDirectory, EntryUsed}
use Rattle.edits.specs.Edit.{SameEntry, SameInode, SameHandle, SameSize}

-- Of the image before: one side, as seen from slot `here` of directory `own`, which names `inode`; `other` is the inode of the other side, `there` its directory.
pub record Side (v : View) (here inode own other there : ℕ) : Type 0 where
  -- the walk found an entry
  pub used : EntryUsed v here
  pub parent : v.parent here ≡ own
  pub target : v.target here ≡ inode
  -- step 7: the inode is not the directory that it goes to, nor above it
  pub not_above : (k : ℕ) → up v.field k there ≢ inode
  -- step 12: that directory can have one more child directory, if it gets one and gives none
  pub room : IsDirectory v inode → (IsDirectory v other → ⊥) → own ≢ there → v.links there ≢ link_limit

-- Both sides, and the refusals that did not come.
pub record Exchangeable (v : View) (old new moved from replaced into : ℕ) : Type 0 where
  pub first : Side v old moved from replaced into
  pub second : Side v new replaced into moved from
  -- step 1: the two names are not of one inode
  pub other : moved ≢ replaced
  -- step 3: one file system
  pub systems : v.system from ≡ v.system into

-- Of the finished image: one side.
pub record Swapped (v w : View) (here inode own other there : ℕ) : Type 0 where
  -- the slot names the other inode, its parent and its name stay
  pub used : w.name_length here ≢ 0
  pub parent : w.parent here ≡ own
  pub target : w.target here ≡ other
  pub name : w.name here ≡ v.name here
  -- a directory that goes to the other side gets its new parent
  pub reparented : IsDirectory v inode → w.field inode ≡ there
  -- the side's directory is counted afresh
  pub recounted : w.links own ≡ 2 + child_directories w own

-- Both sides, and all else as before.
pub record Exchanged (v w : View) (old new moved from replaced into : ℕ) : Type 0 where
  pub first : Swapped v w old moved from replaced into
  pub second : Swapped v w new replaced into moved from
  pub size : SameSize v w
  pub entry : (j : ℕ) → j < v.entries → j ≢ old → j ≢ new → SameEntry v w j
  pub same : (i : ℕ) → i < v.inodes → SameInode v w i
  -- any inode but a directory that changed sides keeps its field, any but the two parents its link count
  pub field : (i : ℕ) → i < v.inodes → (i ≡ moved → IsDirectory v moved → ⊥) → (i ≡ replaced → IsDirectory v replaced → ⊥) → w.field i ≡ v.field i
  pub links : (i : ℕ) → i < v.inodes → i ≢ from → i ≢ into → w.links i ≡ v.links i
  pub text : (t : ℕ) → t < v.texts → w.text_length t ≡ v.text_length t
  pub handle : (n : ℕ) → n < v.handles → SameHandle v w n
