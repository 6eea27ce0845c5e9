-- The range facts that make an image readable, and what a type number says. Assumes nothing.
use Rattle.std.specs.Prelude.{◌≡◌, refl, Bool, true, false, ◌&&◌, not, cond, List, ℕ, ◌<◌, eqb, ltb}
use Rattle.std.proofs.Common.{arith, ltb-true, lt-ltb, eq-eqb, ne_eqb}
use Rattle.seq.specs.Bytes.{no_zero}
use Rattle.seq.specs.Truth.{and_left}
use Rattle.layout.specs.declared.Shape.{Shape}
use Rattle.layout.specs.Facts.{Readable}
use Rattle.layout.specs.View.{View, is_kind, is_symlink, is_used, kind_of, view_of}

-- what names an inode is below their number
pub is_kind_below : (h : Shape) (s : List ℕ) (i k : ℕ) → is_kind (view_of h s) i k ≡ true → i < h.inodes
unfolding view_of
is_kind_below h s i k e = ltb-true _ _ (and_left (ltb i h.inodes) _ e)

pub is_used_below : (h : Shape) (s : List ℕ) (i : ℕ) → is_used (view_of h s) i ≡ true → i < h.inodes
unfolding view_of
is_used_below h s i e = ltb-true _ _ (and_left (ltb i h.inodes) _ e)

-- and one below it is of the type that its record says
pub is_kind_lem : (h : Shape) (s : List ℕ) (i k : ℕ) → i < h.inodes → (view_of h s).kind i ≡ k → is_kind (view_of h s) i k ≡ true
unfolding view_of
is_kind_lem h s i k l e = rw (lt-ltb _ _ l, eq-eqb _ _ e)

pub is_other : (h : Shape) (s : List ℕ) (i k : ℕ) → i < h.inodes → ((view_of h s).kind i ≡ k → ⊥) → is_kind (view_of h s) i k ≡ false
unfolding view_of
is_other h s i k l n = rw (lt-ltb _ _ l, ne_eqb _ _ n)

-- so the type number decides what a number names, where that is not a free inode
pub kind_of_lem : (v : View) (i k : ℕ) → kind_of v i ≡ k → 0 < k → is_kind v i k ≡ true
unfolding kind_of
kind_of_lem v i k e some = go (ltb i v.inodes) e
  where
    go : (b : Bool) → cond b (v.kind i) 0 ≡ k → (b && eqb (v.kind i) k) ≡ true
    go true e = eq-eqb _ _ e
    go false e = absurd (omega arith)

pub other_kind : (v : View) (i k : ℕ) → (kind_of v i ≡ k → ⊥) → is_kind v i k ≡ false
unfolding kind_of
other_kind v i k n = go (ltb i v.inodes) n
  where
    go : (b : Bool) → (cond b (v.kind i) 0 ≡ k → ⊥) → (b && eqb (v.kind i) k) ≡ false
    go true n = ne_eqb _ _ n
    go false n = refl

pub free_kind : (v : View) (i : ℕ) → kind_of v i ≡ 0 → is_used v i ≡ false
unfolding kind_of
free_kind v i e = go (ltb i v.inodes) e
  where
    go : (b : Bool) → cond b (v.kind i) 0 ≡ 0 → (b && not (eqb (v.kind i) 0)) ≡ false
    go true e = rw (eq-eqb _ _ e)
    go false e = refl

pub used_kind : (v : View) (i : ℕ) → (kind_of v i ≡ 0 → ⊥) → is_used v i ≡ true
unfolding kind_of
used_kind v i n = go (ltb i v.inodes) n
  where
    go : (b : Bool) → (cond b (v.kind i) 0 ≡ 0 → ⊥) → (b && not (eqb (v.kind i) 0)) ≡ true
    go true n = rw (ne_eqb _ _ n)
    go false n = absurd (n refl)

-- so the text of a symlink has no zero byte
pub readable_text : (h : Shape) (s : List ℕ) → Readable h s → (i : ℕ) → is_symlink (view_of h s) i ≡ true → no_zero ((view_of h s).text ((view_of h s).field i)) ≡ true
readable_text h s r i link = r.plain _ (r.symlinks i link)
