-- The rules on a record's own bytes, one field for each. Assumes nothing.
use Rattle.std.specs.Prelude.{◌≡◌, ◌≢◌, ◌⊎◌, true, List, ℕ, ◌+◌, ◌-◌, ◌≤◌, ◌<◌}
use Rattle.seq.specs.Bytes.{zeros, no_zero}
use Rattle.layout.specs.declared.Shape.{Shape}
use Rattle.layout.specs.Limits.{text_room}
use Rattle.layout.specs.View.{view_of, name_room, inode_at, entry_at, text_at, handle_at}
use Rattle.names.specs.NameTests.{name_good}

-- an entry in use
pub record EntryForm (h : Shape) (s : List ℕ) (j : ℕ) : Type 0 where
  -- rule 24
  pub short : (view_of h s).name_length j ≤ name_room h
  -- rule 10
  pub padded : zeros (entry_at h s j) 5 3 ≡ true
  pub filled : zeros (entry_at h s j) (8 + (view_of h s).name_length j) (name_room h - (view_of h s).name_length j) ≡ true
  -- rules 25 and 26
  pub name : name_good ((view_of h s).name j) ≡ true

pub record TextForm (h : Shape) (s : List ℕ) (t : ℕ) : Type 0 where
  -- rule 11
  pub short : (view_of h s).text_length t ≤ text_room
  -- rules 12 and 17
  pub filled : zeros (text_at h s t) (1 + (view_of h s).text_length t) (text_room - (view_of h s).text_length t) ≡ true
  -- rule 38
  pub bytes : no_zero ((view_of h s).text t) ≡ true

pub record HandleForm (h : Shape) (s : List ℕ) (n : ℕ) : Type 0 where
  -- rule 7
  pub state : (view_of h s).state n ≤ 2
  -- rule 13
  pub second : (view_of h s).state n ≢ 0 → zeros (handle_at h s n) 1 1 ≡ true
  pub rest : (view_of h s).state n ≢ 0 → zeros (handle_at h s n) 4 4 ≡ true
  -- rule 18
  pub closed : (view_of h s).state n ≡ 0 → zeros (handle_at h s n) 0 8 ≡ true

pub record Formed (h : Shape) (s : List ℕ) : Type 0 where
  -- rule 15
  pub free_inode : (i : ℕ) → i < h.inodes → (view_of h s).kind i ≡ 0 → zeros (inode_at h s i) 0 32 ≡ true
  -- rule 16
  pub free_entry : (j : ℕ) → j < h.entries → (view_of h s).name_length j ≡ 0 → zeros (entry_at h s j) 0 h.width ≡ true
  pub entry : (j : ℕ) → j < h.entries → (view_of h s).name_length j ≢ 0 → EntryForm h s j
  pub text : (t : ℕ) → t < h.texts → TextForm h s t
  pub handle : (n : ℕ) → n < h.handles → HandleForm h s n

-- From image s to image t a record keeps its bytes, or it is well formed.
abbrev pub InodeFormed : Shape → List ℕ → List ℕ → ℕ → Type 0
InodeFormed h s t i = (inode_at h t i ≡ inode_at h s i) ⊎ ((view_of h t).kind i ≡ 0 → zeros (inode_at h t i) 0 32 ≡ true)

abbrev pub EntryFormed : Shape → List ℕ → List ℕ → ℕ → Type 0
EntryFormed h s t j =
    (entry_at h t j ≡ entry_at h s j)
    ⊎ (((view_of h t).name_length j ≡ 0 → zeros (entry_at h t j) 0 h.width ≡ true) × ((view_of h t).name_length j ≢ 0 → EntryForm h t j))

abbrev pub TextFormed : Shape → List ℕ → List ℕ → ℕ → Type 0
TextFormed h s t x = (text_at h t x ≡ text_at h s x) ⊎ TextForm h t x

abbrev pub HandleFormed : Shape → List ℕ → List ℕ → ℕ → Type 0
HandleFormed h s t n = (handle_at h t n ≡ handle_at h s n) ⊎ HandleForm h t n
