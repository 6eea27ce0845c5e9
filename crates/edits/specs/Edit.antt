-- Some slots of the directory entries are written, all other entries stay. Assumes nothing.
use Rattle.std.specs.Prelude.{◌≡◌, List, ℕ, ◌<◌}
use Rattle.seq.specs.Count.{Off, Places}
use Rattle.layout.specs.View.{View}

-- what stays of an entry, of an inode that is neither freed nor made, of a handle, and of the view's size
pub record SameEntry (v w : View) (j : ℕ) : Type 0 where
  pub parent : w.parent j ≡ v.parent j
  pub target : w.target j ≡ v.target j
  pub name_length : w.name_length j ≡ v.name_length j
  pub name : w.name j ≡ v.name j

pub record SameInode (v w : View) (i : ℕ) : Type 0 where
  pub kind : w.kind i ≡ v.kind i
  pub system : w.system i ≡ v.system i
  pub mode : w.mode i ≡ v.mode i

pub record SameHandle (v w : View) (n : ℕ) : Type 0 where
  pub state : w.state n ≡ v.state n
  pub opened : w.opened n ≡ v.opened n

pub record SameSize (v w : View) : Type 0 where
  pub inodes : w.inodes ≡ v.inodes
  pub entries : w.entries ≡ v.entries
  pub texts : w.texts ≡ v.texts
  pub handles : w.handles ≡ v.handles

-- From view v to view w these slots are written, and no other.
pub record Edit (v w : View) (slots : List ℕ) : Type 0 where
  pub size : SameSize v w
  pub places : Places v.entries slots
  pub entry : (j : ℕ) → j < v.entries → Off j slots → SameEntry v w j
