-- What a number names in a view, as facts: a directory, an inode in use, an entry in use, and so on. Each says that the number is in range. Assumes nothing.
use Rattle.std.specs.Prelude.{◌≡◌, ◌≢◌, ℕ, ◌<◌}
use Rattle.layout.specs.View.{View}

-- an inode of this type
abbrev pub IsKind : View → ℕ → ℕ → Type 0
IsKind v i k = (i < v.inodes) × (v.kind i ≡ k)

abbrev pub IsDirectory : View → ℕ → Type 0
IsDirectory v i = IsKind v i 2

abbrev pub IsSymlink : View → ℕ → Type 0
IsSymlink v i = IsKind v i 3

-- an inode in use, and one in use that is no directory
abbrev pub IsUsed : View → ℕ → Type 0
IsUsed v i = (i < v.inodes) × (v.kind i ≢ 0)

abbrev pub IsLeaf : View → ℕ → Type 0
IsLeaf v i = (i < v.inodes) × (v.kind i ≢ 0) × (v.kind i ≢ 2)

-- an entry in use, a text in use, an open handle
abbrev pub EntryUsed : View → ℕ → Type 0
EntryUsed v j = (j < v.entries) × (v.name_length j ≢ 0)

abbrev pub TextUsed : View → ℕ → Type 0
TextUsed v t = (t < v.texts) × (v.text_length t ≢ 0)

abbrev pub HandleOpen : View → ℕ → Type 0
HandleOpen v n = (n < v.handles) × (v.state n ≢ 0)
