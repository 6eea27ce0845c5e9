-- What is counted or looked for once for all inodes: the place that each entry and each inode adds to, and the tables that are filled so. Assumes nothing.
use Rattle.std.specs.Prelude.{◌≡◌, true, ◌&&◌, cond, List, ℕ, ◌≤◌, ◌<◌, eqb, ltb, length, get_or, replicate}
use Rattle.seq.specs.Search.{first}
use Rattle.layout.specs.declared.Shape.{Shape}
use Rattle.layout.specs.Limits.{inode_limit, text_limit}
use Rattle.layout.specs.View.{View, view_of, entry_used, is_directory, is_symlink}
use Rattle.tables.specs.Table.{Table}
use Rattle.tree.specs.Tree.{entries_of, child_directories, has_text, reaches}

-- the inode that an entry in use targets; one past the last where it is free or targets none
unfoldable pub target_slot : View → ℕ → ℕ
target_slot v j = cond (entry_used v j && ltb (v.target j) v.inodes) (v.target j) inode_limit

-- the inode that holds an entry in use whose target is a directory; one past the last where there is none
unfoldable pub holder_slot : View → ℕ → ℕ
holder_slot v j = cond ((entry_used v j && is_directory v (v.target j)) && ltb (v.parent j) v.inodes) (v.parent j) inode_limit

-- the text of a symlink; one past the last where the inode is none or has none
unfoldable pub text_slot : View → ℕ → ℕ
text_slot v i = cond (is_symlink v i && ltb (v.field i) v.texts) (v.field i) text_limit

-- the directory above: the root for the root and for what is no directory; a directory whose field names none stays where it is
unfoldable pub above : View → ℕ → ℕ
above v i = cond (eqb i 0) 0 (cond (is_directory v i) (cond (is_directory v (v.field i)) (v.field i) i) 0)

-- a table of n places before anything is counted
unfoldable pub Blank : ℕ → List ℕ → Type 0
Blank n xs = xs ≡ replicate n 0

-- how many entries target each inode
abbrev pub EntryCounts : Shape → List ℕ → List ℕ → Type 0
EntryCounts h s xs = Table (entries_of (view_of h s)) h.inodes xs

-- how many child directories each directory has
abbrev pub ChildCounts : Shape → List ℕ → List ℕ → Type 0
ChildCounts h s xs = Table (child_directories (view_of h s)) h.inodes xs

-- the first symlink that has each text
abbrev pub TextOwners : Shape → List ℕ → List ℕ → Type 0
TextOwners h s xs = Table (λ t. first (has_text (view_of h s) t) h.inodes) h.texts xs

-- the way up from a directory has come to the root exactly where the fields lead there
pub record Tops (h : Shape) (s xs : List ℕ) : Type 0 where
  pub long : h.inodes ≤ length xs
  pub at : (i : ℕ) → i < h.inodes → is_directory (view_of h s) i ≡ true → eqb (get_or xs i 0) 0 ≡ reaches (view_of h s) 0 h.inodes i
