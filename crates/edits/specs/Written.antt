-- The finished image of a rename, record by record in bytes. Assumes nothing.
use Rattle.std.specs.Prelude.{◌≡◌, ◌≢◌, ◌⊎◌, cond, List, ℕ, ◌+◌, ◌<◌, replicate}
use Rattle.seq.specs.Bytes.{part}
use Rattle.layout.specs.declared.Shape.{Shape}
use Rattle.layout.specs.Limits.{text_size}
use Rattle.layout.specs.View.{View, view_of, inode_at, entry_at, text_at, handle_at, entry_used}
use Rattle.encode.specs.Entry.{entry_bytes, retargeted}
use Rattle.tree.specs.Tree.{entries_of, child_directories}
use Rattle.edits.specs.Kinds.{IsDirectory, IsSymlink}
use Rattle.edits.specs.Moved.{Replaced, Gone}

-- the inodes whose records a rename writes
abbrev pub Touched : View → ℕ → ℕ → ℕ → ℕ → ℕ → Type 0
Touched v new moved from into i = (i ≡ moved) ⊎ ((i ≡ from) ⊎ ((i ≡ into) ⊎ Replaced v new i))

-- Every record of the finished image t, by the records of the image s before. The facts are those of records in range: past its section a view reads the next one.
pub record Written (h : Shape) (s t : List ℕ) (old new moved from into : ℕ) (called : List ℕ) : Type 0 where
  -- the old entry is cleared, the new one names the moved inode, all others are as before
  pub entry : (j : ℕ) → j < h.entries → j ≢ old → j ≢ new → entry_at h t j ≡ entry_at h s j
  pub cleared : entry_at h t old ≡ replicate h.width 0
  pub written : entry_at h t new ≡ cond (entry_used (view_of h s) new) (retargeted moved (entry_at h s new)) (entry_bytes h.width into moved called)
  -- an inode is as before, or zero, or has its first twelve bytes as before and these numbers behind them
  pub inode : (i : ℕ) → i < h.inodes → (Touched (view_of h s) new moved from into i → ⊥) → inode_at h t i ≡ inode_at h s i
  pub freed : (i : ℕ) → i < h.inodes → Gone (view_of h s) (view_of h t) new i → inode_at h t i ≡ replicate 32 0
  pub head : (i : ℕ) → i < h.inodes → (Gone (view_of h s) (view_of h t) new i → ⊥) → part (inode_at h t i) 0 12 ≡ part (inode_at h s i) 0 12
  pub reparented : IsDirectory (view_of h s) moved → (view_of h t).field moved ≡ into
  pub field : (i : ℕ) → i < h.inodes → (Gone (view_of h s) (view_of h t) new i → ⊥) → (i ≡ moved → IsDirectory (view_of h s) moved → ⊥)
      → (view_of h t).field i ≡ (view_of h s).field i
  pub parents : (i : ℕ) → (i ≡ from) ⊎ (i ≡ into) → (view_of h t).links i ≡ 2 + child_directories (view_of h t) i
  pub replaced : (i : ℕ) → Replaced (view_of h s) new i → (Gone (view_of h s) (view_of h t) new i → ⊥) → (view_of h t).links i ≡ entries_of (view_of h t) i
  pub links : (view_of h t).links moved ≡ (view_of h s).links moved
  -- the text of a freed symlink is zero, all others are as before; handles too
  pub text : (x : ℕ) → x < h.texts → ((i : ℕ) → Gone (view_of h s) (view_of h t) new i → IsSymlink (view_of h s) i → (view_of h s).field i ≢ x)
      → text_at h t x ≡ text_at h s x
  pub text_freed : (i : ℕ) → Gone (view_of h s) (view_of h t) new i → IsSymlink (view_of h s) i → text_at h t ((view_of h s).field i) ≡ replicate text_size 0
  pub handle : (n : ℕ) → n < h.handles → handle_at h t n ≡ handle_at h s n
