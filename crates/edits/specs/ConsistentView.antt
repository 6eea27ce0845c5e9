-- What the records of a consistent image say of each other, as facts over its view, one field for each rule. Assumes nothing.
use Rattle.std.specs.Prelude.{◌≡◌, ◌≢◌, ℕ, ◌+◌, ◌≤◌, ◌<◌}
use Rattle.seq.specs.Climb.{up}
use Rattle.layout.specs.Limits.{link_limit, mode_limit}
use Rattle.layout.specs.View.{View}
use Rattle.tree.specs.Tree.{entries_of, child_directories}
use Rattle.edits.specs.Kinds.{IsKind, IsDirectory, IsSymlink, IsUsed, IsLeaf, EntryUsed, TextUsed, HandleOpen}

-- what an entry in use names
pub record EntryLinked (v : View) (j : ℕ) : Type 0 where
  -- rule 21
  pub below_root : v.target j ≢ 0
  -- rule 22
  pub parent : IsDirectory v (v.parent j)
  -- rule 23
  pub target : IsUsed v (v.target j)
  -- rule 29
  pub above : IsDirectory v (v.target j) → v.field (v.target j) ≡ v.parent j
  -- rule 35
  pub system : (IsDirectory v (v.target j) → ⊥) → v.system (v.target j) ≡ v.system (v.parent j)

-- the tree, but for the way up
pub record Placed (v : View) : Type 0 where
  -- rule 9
  pub top : v.field 0 ≡ 0
  -- rule 20
  pub root : IsDirectory v 0
  -- rules 21 to 23, 29 and 35
  pub entry : (j : ℕ) → EntryUsed v j → EntryLinked v j
  -- rule 28
  pub one_entry : (i : ℕ) → IsDirectory v i → i ≢ 0 → entries_of v i ≡ 1

-- each inode by itself, and its link count
pub record Counted (v : View) : Type 0 where
  -- rule 6
  pub kind : (i : ℕ) → i < v.inodes → v.kind i ≤ 3
  -- rule 8
  pub plain : (i : ℕ) → IsKind v i 1 → v.field i ≡ 0
  -- rule 19
  pub mode : (i : ℕ) → IsUsed v i → v.mode i < mode_limit
  -- rule 31
  pub children : (i : ℕ) → IsDirectory v i → v.links i ≡ 2 + child_directories v i
  -- rule 32
  pub entries : (i : ℕ) → IsLeaf v i → v.links i ≡ entries_of v i
  -- rule 33
  pub linked : (i : ℕ) → IsLeaf v i → 1 ≤ v.links i
  -- rule 34
  pub within : (i : ℕ) → IsUsed v i → v.links i ≤ link_limit

-- symlinks and their texts
pub record Texts (v : View) : Type 0 where
  -- rule 36
  pub used : (i : ℕ) → IsSymlink v i → TextUsed v (v.field i)
  -- rule 37
  pub own : (i k : ℕ) → IsSymlink v i → IsSymlink v k → v.field i ≡ v.field k → i ≡ k
  -- rule 39
  pub owned : (t : ℕ) → TextUsed v t → (i : ℕ) × IsSymlink v i × (v.field i ≡ t)

-- The facts of a consistent image that its view has; those of each record's own bytes are in Formed.antt.
pub record ConsistentView (v : View) : Type 0 where
  pub placed : Placed v
  pub counted : Counted v
  -- rule 27
  pub distinct : (i j : ℕ) → EntryUsed v i → EntryUsed v j → v.parent i ≡ v.parent j → v.name i ≡ v.name j → i ≡ j
  -- rule 30
  pub leads : (i : ℕ) → IsDirectory v i → (k : ℕ) × (up v.field k i ≡ 0)
  pub texts : Texts v
  -- rule 40
  pub handles : (n : ℕ) → HandleOpen v n → IsUsed v (v.opened n)
