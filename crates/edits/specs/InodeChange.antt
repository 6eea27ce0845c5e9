-- A change of an image: slots written, inodes freed, made or given another parent, all else kept. Assumes nothing.
use Rattle.std.specs.Prelude.{◌≡◌, ◌≢◌, List, ℕ, ◌<◌}
use Rattle.seq.specs.Count.{Off}
use Rattle.layout.specs.View.{View}
use Rattle.edits.specs.Kinds.{IsDirectory, EntryUsed}
use Rattle.edits.specs.Edit.{SameInode, Edit}

-- The inodes that are freed, those that are made, and the directories that get another parent; which they are is decided.
pub record InodeChange (v w : View) (slots : List ℕ) (Gone Made Reparented : ℕ → Type 0) : Type 0 where
  pub edit : Edit v w slots
  pub gone? : (i : ℕ) → Dec (Gone i)
  pub made? : (i : ℕ) → Dec (Made i)
  pub reparented? : (i : ℕ) → Dec (Reparented i)
  -- the root stays
  pub root : (Gone 0 → ⊥) × (Reparented 0 → ⊥)
  -- a freed inode is free, and no entry names it
  pub gone : (i : ℕ) → i < v.inodes → Gone i → w.kind i ≡ 0
  pub unnamed : (i : ℕ) → Gone i → (j : ℕ) → EntryUsed w j → (w.parent j ≢ i) × (w.target j ≢ i)
  -- an inode that is made was free
  pub made : (i : ℕ) → Made i → v.kind i ≡ 0
  -- only a directory gets another parent, and its entry is written
  pub directory : (i : ℕ) → Reparented i → IsDirectory v i
  pub reparented : (i : ℕ) → Reparented i → (j : ℕ) → Off j slots → EntryUsed v j → v.target j ≢ i
  -- all else is kept
  pub same : (i : ℕ) → i < v.inodes → (Gone i → ⊥) → (Made i → ⊥) → SameInode v w i
  pub field : (i : ℕ) → i < v.inodes → (Gone i → ⊥) → (Made i → ⊥) → (Reparented i → ⊥) → w.field i ≡ v.field i
