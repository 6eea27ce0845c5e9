-- What a change of entries owes: the entries in its slots are good, and so are the link counts that the slots touch. Assumes nothing.
use Rattle.std.specs.Prelude.{◌≡◌, ◌≢◌, ◌⊎◌, List, ℕ, ◌+◌, ◌≤◌, ◌<◌}
use Rattle.seq.specs.Count.{On, bit, bits}
use Rattle.seq.specs.Climb.{up}
use Rattle.layout.specs.Limits.{link_limit, mode_limit}
use Rattle.layout.specs.View.{View}
use Rattle.tree.specs.Tree.{targets, entries_of, holds_directory, child_directories}
use Rattle.edits.specs.Kinds.{IsDirectory, IsLeaf, EntryUsed, HandleOpen}
use Rattle.edits.specs.ConsistentView.{EntryLinked}
use Rattle.edits.specs.TextChange.{TextChange}

-- whether entry j is a child directory of d, as a number
abbrev pub holds : View → ℕ → ℕ → ℕ
holds v d j = bit (holds_directory v d j)

-- as many of the written entries name inode i after as before, and as many of them are child directories of d
abbrev pub SameEntries : View → View → List ℕ → ℕ → Type 0
SameEntries v w slots i = bits (targets v i) slots ≡ bits (targets w i) slots

abbrev pub SameChildren : View → View → List ℕ → ℕ → Type 0
SameChildren v w slots d = bits (holds_directory v d) slots ≡ bits (holds_directory w d) slots

-- a link count is counted afresh and within its bounds, or it is the old one and the slots do not touch it
abbrev pub DirectoryCount : View → View → List ℕ → ℕ → Type 0
DirectoryCount v w slots d =
    ((w.links d ≡ 2 + child_directories w d) × (2 + child_directories w d ≤ link_limit))
    ⊎ (IsDirectory v d × (w.links d ≡ v.links d) × SameChildren v w slots d)

abbrev pub LeafCount : View → View → List ℕ → ℕ → Type 0
LeafCount v w slots i =
    ((w.links i ≡ entries_of w i) × (1 ≤ entries_of w i) × (entries_of w i ≤ link_limit))
    ⊎ (IsLeaf v i × (w.links i ≡ v.links i) × SameEntries v w slots i)

-- What a call owes beside the change itself.
pub record Settled (v w : View) (slots : List ℕ) (Gone Made Reparented : ℕ → Type 0) : Type 0 where
  -- rules 21 to 23, 29 and 35: the entries written
  pub written : (j : ℕ) → On j slots → EntryUsed w j → EntryLinked w j
  -- rule 27: their names
  pub named : (c j : ℕ) → On c slots → EntryUsed w c → EntryUsed w j → c ≢ j → w.parent c ≡ w.parent j → w.name c ≡ w.name j → ⊥
  -- rule 28
  pub one_entry : (i : ℕ) → IsDirectory w i → i ≢ 0 → (entries_of w i ≡ 1) ⊎ (IsDirectory v i × SameEntries v w slots i)
  -- rule 30: the old way up from a new parent meets no directory that got another parent
  pub clear : (i : ℕ) → IsDirectory w i → Made i ⊎ Reparented i → IsDirectory v (w.field i) × ((k : ℕ) → Reparented (up v.field k (w.field i)) → ⊥)
  -- rules 31 and 34
  pub directory_count_lem : (d : ℕ) → IsDirectory w d → DirectoryCount v w slots d
  -- rules 32 to 34
  pub leaf_count_lem : (i : ℕ) → IsLeaf w i → LeafCount v w slots i
  -- rules 6, 8 and 19: the inodes made
  pub made_kind : (i : ℕ) → Made i → w.kind i ≤ 3
  pub made_plain : (i : ℕ) → Made i → w.kind i ≡ 1 → w.field i ≡ 0
  pub made_mode : (i : ℕ) → Made i → w.mode i < mode_limit
  -- rules 36, 37 and 39
  pub texts : TextChange v w Gone Made
  -- rule 40
  pub handles : (n : ℕ) → HandleOpen w n → HandleOpen v n × (w.opened n ≡ v.opened n) × (Gone (v.opened n) → ⊥)
