-- The tests on a view, read as facts and made from them: what an inode is, which entries count, which entries clash. Assumes nothing.
use Rattle.std.specs.Prelude.{◌≡◌, ◌≢◌, true, false, ℕ, eqb, ltb}
use borrow.Author.Tests.{eqb-true, eqb-false, ltb-true, eq-eqb, ne_eqb, lt-ltb, not-true}
use Rattle.seq.specs.Truth.{and_left, and_right, not_both, refuted}
use Rattle.seq.proofs.BytesLaws.{same_refl, same_bytes}
use Rattle.layout.specs.View.{View, is_kind, is_used}
use Rattle.names.specs.Name.{clash}
use Rattle.tree.specs.Tree.{targets, holds_directory}
use Rattle.edits.specs.Kinds.{IsKind, IsDirectory, IsUsed}

module _ (v : View) where
  -- an inode's type
  pub kind_is : (i k : ℕ) → is_kind v i k ≡ true → IsKind v i k
  kind_is i k e = (ltb-true _ _ (and_left (ltb i v.inodes) _ e), eqb-true _ _ (and_right (ltb i v.inodes) (eqb (v.kind i) k) e))

  pub kind_test : (i k : ℕ) → IsKind v i k → is_kind v i k ≡ true
  kind_test i k (l, e) = rw (lt-ltb _ _ l, eq-eqb _ _ e)

  pub no_kind : (i k : ℕ) → (IsKind v i k → ⊥) → is_kind v i k ≡ false
  no_kind i k n = refuted (is_kind v i k) (λ e. n (kind_is i k e))

  pub not_kind : (i k : ℕ) → is_kind v i k ≡ false → IsKind v i k → ⊥
  not_kind i k e d = not_both (is_kind v i k) (kind_test i k d) e

  -- an inode in use
  pub used_is : (i : ℕ) → is_used v i ≡ true → IsUsed v i
  used_is i e = (ltb-true _ _ (and_left (ltb i v.inodes) _ e), eqb-false _ _ (not-true (eqb (v.kind i) 0) (and_right (ltb i v.inodes) _ e)))

  pub is_used_lem : (i : ℕ) → IsUsed v i → is_used v i ≡ true
  is_used_lem i (l, n) = rw (lt-ltb _ _ l, ne_eqb _ _ n)

  -- an entry that counts for inode i
  pub targets_is : (i j : ℕ) → targets v i j ≡ true → (v.name_length j ≢ 0) × (v.target j ≡ i)
  targets_is i j e =
      (eqb-false _ _ (not-true (eqb (v.name_length j) 0) (search (and_left, and_right))), eqb-true _ _ (search (and_left, and_right)))

  pub is_targets : (i j : ℕ) → v.name_length j ≢ 0 → v.target j ≡ i → targets v i j ≡ true
  is_targets i j u e = rw (ne_eqb _ _ u, eq-eqb _ _ e)

  pub no_targets : (i j : ℕ) → (v.name_length j ≢ 0 → v.target j ≢ i) → targets v i j ≡ false
  no_targets i j n = refuted (targets v i j) (λ e. let (a, b) = targets_is i j e in n a b)

  -- an entry that counts for directory d
  pub holds_is : (d j : ℕ) → holds_directory v d j ≡ true → (v.name_length j ≢ 0) × (v.parent j ≡ d) × IsDirectory v (v.target j)
  holds_is d j e = (
    eqb-false _ _ (not-true (eqb (v.name_length j) 0) (search (and_left, and_right))),
    eqb-true _ _ (search (and_left, and_right)),
    kind_is (v.target j) 2 (search (and_left, and_right)),
  )

  pub is_holds : (d j : ℕ) → v.name_length j ≢ 0 → v.parent j ≡ d → IsDirectory v (v.target j) → holds_directory v d j ≡ true
  is_holds d j u e t = rw (ne_eqb _ _ u, eq-eqb _ _ e, kind_test (v.target j) 2 t)

  pub no_holds : (d j : ℕ) → (v.name_length j ≢ 0 → v.parent j ≡ d → IsDirectory v (v.target j) → ⊥) → holds_directory v d j ≡ false
  no_holds d j n = refuted (holds_directory v d j) (λ e. let (a, b, c) = holds_is d j e in n a b c)

  -- two entries that clash
  pub clash_is : (i j : ℕ) → clash v i j ≡ true
      → (v.name_length i ≢ 0) × (v.name_length j ≢ 0) × (v.parent i ≡ v.parent j) × (v.name i ≡ v.name j)
  unfolding clash
  clash_is i j e = (
    eqb-false _ _ (not-true (eqb (v.name_length i) 0) (search (and_left, and_right))),
    eqb-false _ _ (not-true (eqb (v.name_length j) 0) (search (and_left, and_right))),
    eqb-true _ _ (search (and_left, and_right)),
    same_bytes _ _ (search (and_left, and_right)),
  )

  pub is_clash : (i j : ℕ) → v.name_length i ≢ 0 → v.name_length j ≢ 0 → v.parent i ≡ v.parent j → v.name i ≡ v.name j
      → clash v i j ≡ true
  unfolding clash
  is_clash i j a b p n = rw (ne_eqb _ _ a, ne_eqb _ _ b, eq-eqb _ _ p, n) (same_refl (v.name j))

-- entries of two views that name the same inode count for the same inode
pub same_target : (v w : View) (i j k : ℕ) → v.name_length j ≢ 0 → w.name_length k ≢ 0 → v.target j ≡ w.target k → targets v i j ≡ targets w i k
same_target v w i j k a b e = rw (ne_eqb _ _ a, ne_eqb _ _ b, e)

-- entries of two views that lie in the same directory, and both name one, count for the same directory
pub same_holds : (v w : View) (d j k : ℕ) → v.name_length j ≢ 0 → w.name_length k ≢ 0 → v.parent j ≡ w.parent k
    → IsDirectory v (v.target j) → IsDirectory w (w.target k) → holds_directory v d j ≡ holds_directory w d k
same_holds v w d j k a b e s t = rw (ne_eqb _ _ a, ne_eqb _ _ b, e, kind_test v _ 2 s, kind_test w _ 2 t)
