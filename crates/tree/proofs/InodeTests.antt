-- What each type number picks of the tests of an inode. Assumes nothing.
use Rattle.std.specs.Prelude.{◌≡◌, Bool, false, ℕ}
use Rattle.std.proofs.Common.{ne_eqb}
use Rattle.tree.specs.Inode.{by_kind}

-- what each type number picks
module _ (k : ℕ) (free file directory symlink : Bool) where
  pub kind_free : k ≡ 0 → by_kind k free file directory symlink ≡ free
  kind_free e = simp e

  pub kind_file : k ≡ 1 → by_kind k free file directory symlink ≡ file
  kind_file e = simp e

  pub kind_directory : k ≡ 2 → by_kind k free file directory symlink ≡ directory
  kind_directory e = simp e

  pub kind_symlink : k ≡ 3 → by_kind k free file directory symlink ≡ symlink
  kind_symlink e = simp e

  pub kind_none : (k ≡ 0 → ⊥) → (k ≡ 1 → ⊥) → (k ≡ 2 → ⊥) → (k ≡ 3 → ⊥) → by_kind k free file directory symlink ≡ false
  kind_none a b c d = simp (ne_eqb _ _ a, ne_eqb _ _ b, ne_eqb _ _ c, ne_eqb _ _ d)
