-- What becomes of the symlink texts in a change: a freed symlink's text is freed, a made one's was free, all others stay. Assumes nothing.
use Rattle.std.specs.Prelude.{◌≡◌, ◌⊎◌, ℕ}
use Rattle.layout.specs.View.{View}
use Rattle.edits.specs.Kinds.{IsSymlink, TextUsed}

pub record TextChange (v w : View) (Gone Made : ℕ → Type 0) : Type 0 where
  -- a text in use stays so, unless it was that of a freed symlink, and one in use now was so, unless it is that of a made one
  pub before : (t : ℕ) → TextUsed v t → TextUsed w t ⊎ ((i : ℕ) × Gone i × IsSymlink v i × (v.field i ≡ t))
  pub after : (t : ℕ) → TextUsed w t → TextUsed v t ⊎ ((i : ℕ) × Made i × IsSymlink w i × (w.field i ≡ t))
  pub freed : (i : ℕ) → Gone i → IsSymlink v i → TextUsed w (v.field i) → ⊥
  pub fresh : (i : ℕ) → Made i → IsSymlink w i → TextUsed w (w.field i) × (TextUsed v (w.field i) → ⊥)
  -- no two made symlinks share a text, and any other symlink keeps its own
  pub single : (i k : ℕ) → Made i → Made k → w.field i ≡ w.field k → i ≡ k
  pub same : (i : ℕ) → IsSymlink v i → IsSymlink w i → w.field i ≡ v.field i
