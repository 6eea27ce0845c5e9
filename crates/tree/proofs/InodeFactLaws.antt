-- A good inode and the record of its facts, both directions. Assumes nothing.
use Rattle.std.specs.Prelude.{◌≡◌, refl, Bool, true, false, ◌&&◌, cond, List, ℕ, ◌≤◌, eqb}
use Rattle.std.proofs.Math.Path.{sym}
use Rattle.std.proofs.Common.{◌∙◌, arith}
use Rattle.std.proofs.lemmas.Bool.{false≢true}
use Rattle.std.proofs.Math.Decide.{ℕ_discrete, dec_le}
use borrow.Author.Tests.{eqb-true, eqb-false, ltb-true, leb-true, not-true, eq-eqb, ne_eqb, lt-ltb, le-leb}
use Rattle.seq.specs.Truth.{and_left, and_right, and_both}
use Rattle.layout.specs.declared.Shape.{Shape}
use Rattle.layout.specs.View.{View}
use Rattle.tree.specs.Tree.{entries_of, reaches, text_shared}
use Rattle.tree.specs.Inode.{leaf_good, file_good, directory_good, symlink_good, by_kind, inode_good}
use Rattle.tree.proofs.InodeTests.{kind_free, kind_file, kind_directory, kind_symlink, kind_none}
use Rattle.tree.specs.InodeFacts.{Leaf, File, Directory, Symlink, Inode}

module _ (v : View) (i : ℕ) where
  leaf_is : leaf_good v i ≡ true → Leaf v i
  unfolding leaf_good
  leaf_is e = record {
    mode = ltb-true _ _ (search (and_left, and_right));
    within = leb-true _ _ (search (and_left, and_right));
    linked = leb-true _ _ (search (and_left, and_right));
    counted = eqb-true _ _ (search (and_left, and_right));
  }

  is_leaf : Leaf v i → leaf_good v i ≡ true
  unfolding leaf_good
  is_leaf f = rw (lt-ltb _ _ f.mode, le-leb _ _ f.within, le-leb _ _ f.linked, eq-eqb _ _ f.counted)

  file_is : file_good v i ≡ true → File v i
  unfolding file_good
  file_is e = record { leaf = leaf_is (search (and_left, and_right)); plain = eqb-true _ _ (search (and_left, and_right)) }

  is_file : File v i → file_good v i ≡ true
  unfolding file_good
  is_file f = rw (is_leaf f.leaf, eq-eqb _ _ f.plain)

  -- the root, or any other directory
  placed_is : (b : Bool) (field only up : Bool) → cond b field (only && up) ≡ true
      → (b ≡ true → field ≡ true) × (b ≡ false → only ≡ true) × (b ≡ false → up ≡ true)
  placed_is true field only up e = ((λ z. e), (λ z. absurd (false≢true (sym z))), (λ z. absurd (false≢true (sym z))))
  placed_is false field only up e = ((λ z. absurd (false≢true z)), (λ z. and_left only up e), (λ z. and_right only up e))

  is_placed : (b : Bool) (field only up : Bool) → (b ≡ true → field ≡ true) → (b ≡ false → only ≡ true) → (b ≡ false → up ≡ true)
      → cond b field (only && up) ≡ true
  is_placed true field only up f g k = f refl
  is_placed false field only up f g k = and_both only up (g refl) (k refl)

  directory_is : directory_good v i ≡ true → Directory v i
  unfolding directory_good
  directory_is e =
      let p = placed_is (eqb i 0) (eqb (v.field i) 0) (eqb (entries_of v i) 1) (reaches v 0 v.inodes i) (search (and_left, and_right)) in
      record {
        mode = ltb-true _ _ (search (and_left, and_right));
        within = leb-true _ _ (search (and_left, and_right));
        counted = eqb-true _ _ (search (and_left, and_right));
        own_parent = λ z. eqb-true _ _ (p.0 (eq-eqb _ _ z));
        one_entry = λ n. eqb-true _ _ (p.1 (ne_eqb _ _ n));
        leads_up_lem = λ n. p.2 (ne_eqb _ _ n);
      }

  is_directory_lem : Directory v i → directory_good v i ≡ true
  unfolding directory_good
  is_directory_lem f =
      let p = is_placed (eqb i 0) (eqb (v.field i) 0) (eqb (entries_of v i) 1) (reaches v 0 v.inodes i)
      (λ b. eq-eqb _ _ (f.own_parent (eqb-true _ _ b))) (λ b. eq-eqb _ _ (f.one_entry (eqb-false _ _ b))) (λ b. f.leads_up_lem (eqb-false _ _ b)) in
      rw (lt-ltb _ _ f.mode, le-leb _ _ f.within, eq-eqb _ _ f.counted) p

  symlink_is : symlink_good v i ≡ true → Symlink v i
  unfolding symlink_good
  symlink_is e = record {
    leaf = leaf_is (search (and_left, and_right));
    text = ltb-true _ _ (search (and_left, and_right));
    used = search (and_left, and_right);
    own = not-true (text_shared v i) (search (and_left, and_right));
  }

  is_symlink_lem : Symlink v i → symlink_good v i ≡ true
  unfolding symlink_good
  is_symlink_lem f = rw (is_leaf f.leaf, lt-ltb _ _ f.text, f.used, f.own)

-- the four types, and no fifth
module _ (k : ℕ) (free file directory symlink : Bool) where
  kind_within : by_kind k free file directory symlink ≡ true → k ≤ 3
  kind_within e = go (dec_le k 3)
    where
      go : Dec (k ≤ 3) → k ≤ 3
      go (yes l) = l
      go (no l) =
          absurd (false≢true (sym (kind_none k free file directory symlink (λ z. l (omega arith)) (λ z. l (omega arith)) (λ z. l (omega arith)) (λ z. l (omega arith))) ∙ e))

  kind_of_lem : k ≤ 3 → (k ≡ 0 → free ≡ true) → (k ≡ 1 → file ≡ true) → (k ≡ 2 → directory ≡ true) → (k ≡ 3 → symlink ≡ true)
      → by_kind k free file directory symlink ≡ true
  kind_of_lem l a b c d = go (ℕ_discrete k 0) (ℕ_discrete k 1) (ℕ_discrete k 2)
    where
      go : Dec (k ≡ 0) → Dec (k ≡ 1) → Dec (k ≡ 2) → by_kind k free file directory symlink ≡ true
      go (yes z) q r = kind_free k free file directory symlink z ∙ a z
      go (no n) (yes z) r = kind_file k free file directory symlink z ∙ b z
      go (no n) (no m) (yes z) = kind_directory k free file directory symlink z ∙ c z
      go (no n) (no m) (no o) = let z : k ≡ 3 = omega arith in kind_symlink k free file directory symlink z ∙ d z

module _ (h : Shape) (s : List ℕ) (i : ℕ) where
  pub inode_is : inode_good h s i ≡ true → Inode h s i
  unfolding inode_good
  inode_is e = record {
    kind = kind_within _ _ _ _ _ e;
    free = λ z. sym (kind_free _ _ _ _ _ z) ∙ e;
    file = λ z. file_is _ i (sym (kind_file _ _ _ _ _ z) ∙ e);
    directory = λ z. directory_is _ i (sym (kind_directory _ _ _ _ _ z) ∙ e);
    symlink = λ z. symlink_is _ i (sym (kind_symlink _ _ _ _ _ z) ∙ e);
  }

  pub is_inode : Inode h s i → inode_good h s i ≡ true
  unfolding inode_good
  is_inode f =
      kind_of_lem _ _ _ _ _ f.kind f.free (λ z. is_file _ i (f.file z)) (λ z. is_directory_lem _ i (f.directory z)) (λ z. is_symlink_lem _ i (f.symlink z))
