-- A rename over views: what a plan that was not refused knows of the image, and what the finished image has. Assumes nothing.
-- The inode `moved` goes from slot `old` of directory `from` to slot `new` of directory `into`, under the name `called`; what slot `new` named is replaced.
use Rattle.std.specs.Prelude.{◌≡◌, ◌≢◌, ◌⊎◌, List, ℕ, ◌+◌, ◌<◌}
use Rattle.seq.specs.Climb.{up}
use Rattle.layout.specs.Limits.{link_limit}
use Rattle.layout.specs.View.{View}
use Rattle.tree.specs.Tree.{entries_of, child_directories}
use Rattle.edits.specs.Kinds.{IsDirectory, IsSymlink, EntryUsed, HandleOpen}
use Rattle.edits.specs.Edit.{SameEntry, SameInode, SameHandle, SameSize}

-- Of the image before: both walks, and the refusals that did not come, by their steps in the order of refusal. The others are not needed.
pub record Allowed (v : View) (old new moved from into : ℕ) (called : List ℕ) : Type 0 where
  -- old's walk found an entry
  pub old_used : EntryUsed v old
  pub old_parent : v.parent old ≡ from
  pub old_target : v.target old ≡ moved
  -- new's walk found a directory, and an entry with the name or none
  pub into_directory : IsDirectory v into
  pub new_parent : EntryUsed v new → v.parent new ≡ into
  pub new_name_lem : EntryUsed v new → v.name new ≡ called
  pub missing : (EntryUsed v new → ⊥) → (j : ℕ) → EntryUsed v j → v.parent j ≡ into → v.name j ≢ called
  -- step 1: the two names are not of one inode
  pub other : EntryUsed v new → v.target new ≢ moved
  -- step 3: one file system
  pub systems : v.system from ≡ v.system into
  -- step 7: the moved inode is not the new parent, nor above it
  pub not_above : (k : ℕ) → up v.field k into ≢ moved
  -- step 8: a directory replaces a directory
  pub alike : EntryUsed v new → IsDirectory v moved → IsDirectory v (v.target new)
  -- step 10: a replaced directory is empty
  pub empty : EntryUsed v new → IsDirectory v (v.target new) → (j : ℕ) → EntryUsed v j → v.parent j ≢ v.target new
  -- step 11: no handle is open on an inode that loses its last entry
  pub unopened : EntryUsed v new → entries_of v (v.target new) ≡ 1 → (n : ℕ) → HandleOpen v n → v.opened n ≢ v.target new
  -- step 12: the new parent can have one more child directory
  pub room : IsDirectory v moved → from ≢ into → (EntryUsed v new → ⊥) → v.links into ≢ link_limit
  -- step 13: the new slot exists
  pub new_below : new < v.entries

-- inode i is replaced, and has no entry left
abbrev pub Replaced : View → ℕ → ℕ → Type 0
Replaced v new i = EntryUsed v new × (v.target new ≡ i)

abbrev pub Gone : View → View → ℕ → ℕ → Type 0
Gone v w new i = Replaced v new i × (entries_of w i ≡ 0)

-- Of the finished image.
pub record Moved (v w : View) (old new moved from into : ℕ) (called : List ℕ) : Type 0 where
  pub size : SameSize v w
  -- the old entry is cleared, the new one names the moved inode, all others stay
  pub entry : (j : ℕ) → j < v.entries → j ≢ old → j ≢ new → SameEntry v w j
  pub cleared : w.name_length old ≡ 0
  pub used : w.name_length new ≢ 0
  pub parent : w.parent new ≡ into
  pub target : w.target new ≡ moved
  pub name : w.name new ≡ called
  -- a replaced inode without entries is freed, any other inode keeps its type, file system and mode
  pub freed : (i : ℕ) → i < v.inodes → Gone v w new i → w.kind i ≡ 0
  pub same : (i : ℕ) → i < v.inodes → (Gone v w new i → ⊥) → SameInode v w i
  -- a moved directory gets its new parent, any other inode keeps its field
  pub reparented : IsDirectory v moved → w.field moved ≡ into
  pub field : (i : ℕ) → i < v.inodes → (Gone v w new i → ⊥) → (i ≡ moved → IsDirectory v moved → ⊥) → w.field i ≡ v.field i
  -- the parents and a replaced inode that is left are counted afresh, any other inode keeps its link count
  pub parents : (i : ℕ) → i < v.inodes → (i ≡ from) ⊎ (i ≡ into) → w.links i ≡ 2 + child_directories w i
  pub replaced : (i : ℕ) → i < v.inodes → Replaced v new i → (Gone v w new i → ⊥) → w.links i ≡ entries_of w i
  pub links : (i : ℕ) → i < v.inodes → i ≢ from → i ≢ into → (Replaced v new i → ⊥) → w.links i ≡ v.links i
  -- the text of a freed symlink is freed, all others stay
  pub text : (t : ℕ) → t < v.texts → ((i : ℕ) → Gone v w new i → IsSymlink v i → v.field i ≢ t) → w.text_length t ≡ v.text_length t
  pub text_freed : (i : ℕ) → Gone v w new i → IsSymlink v i → w.text_length (v.field i) ≡ 0
  pub handle : (n : ℕ) → n < v.handles → SameHandle v w n
