-- Laws of the table of contents: the ways out of reading it, and what a good layout gives to a reader of records. Assumes nothing.
use Rattle.std.specs.Prelude.{◌≡◌, refl, Bool, false, ◌&&◌, List, ℕ, ◌+◌, ◌*◌, ◌≤◌, ◌<◌, leb, length, get_or, None, Some}
use Rattle.std.specs.Bool.{then_some}
use Rattle.std.proofs.Common.{sym, subst, ◌∙◌, mul-le-mul_right, arith, lit<}
use Rattle.std.proofs.Math.Bool.{true, and-false}
use Rattle.std.proofs.Math.Dec.{eqb, lit≤}
use borrow.Author.Tests.{leb-true, eqb-true, eq-eqb, ne_eqb, le-leb, lt-leb}
use Rattle.seq.specs.Search.{all}
use Rattle.seq.specs.Number.{number_at}
use Rattle.seq.specs.Truth.{and_left, and_right, and_both, same_truth, implies_at, implies_of}
use Rattle.seq.specs.AllPass.{no_more, ◌&◌, is_every, every_at}
use Rattle.seq.proofs.SearchLaws.{all_at, all_not, all_of}
use Rattle.layout.specs.declared.Shape.{Shape}
use Rattle.layout.specs.Limits.{contents_bytes, journal_size}
use Rattle.layout.specs.Place.{image_bytes, base}
use Rattle.layout.specs.Facts.{Laid, CountsFit, Read}
use Rattle.layout.specs.Contents.{fewest, layout_good, most, name_is, shape_of, width_of, section_named, section_placed, section_counted, layout_rules, count_in, contents_there, offset_in, section_name}
use Rattle.layout.specs.ContentsRead.{contents_of, pick_contents, row_good, row_is, rows_good, layout_read}

-- the ways out of comparing a name: three bytes agree, and the fourth decides
pub name_last : (s : List ℕ) (at : ℕ) (name : List ℕ) → get_or s at 0 ≡ get_or name 0 0 → get_or s (at + 1) 0 ≡ get_or name 1 0 → get_or s (at + 2) 0 ≡ get_or name 2 0
    → name_is s at name ≡ eqb (get_or s (at + 3) 0) (get_or name 3 0)
unfolding name_is
name_last s at name a b c = simp (eq-eqb _ _ a, eq-eqb _ _ b, eq-eqb _ _ c)

-- the ways out of comparing a row
module _ (s : List ℕ) (at : ℕ) (name : List ℕ) (offset least limit : ℕ) where
  pub row_name : name_is s at name ≡ false → row_is s at name offset least limit ≡ false
  unfolding row_is
  row_name e = rw e

  pub row_offset_lem : (number_at 2 s (at + 4) ≡ offset → ⊥) → row_is s at name offset least limit ≡ false
  unfolding row_is
  row_offset_lem ne = rw (ne_eqb _ _ ne, and-false (name_is s at name))

  pub row_few : number_at 2 s (at + 6) < least → row_is s at name offset least limit ≡ false
  unfolding row_is
  row_few few = rw (lt-leb _ _ few, and-false (name_is s at name && eqb (number_at 2 s (at + 4)) offset))

  pub row_count : name_is s at name ≡ true → number_at 2 s (at + 4) ≡ offset → least ≤ number_at 2 s (at + 6)
      → row_is s at name offset least limit ≡ leb (number_at 2 s (at + 6)) limit
  unfolding row_is
  row_count a b c = rw (a, eq-eqb _ _ b, le-leb _ _ c)

-- the ways out of reading the table of contents
pub contents_short : (s : List ℕ) → length s < contents_bytes → contents_of s ≡ None
unfolding contents_of layout_read
contents_short s l = rw (lt-leb _ _ l)

module _ (s : List ℕ) (h : Shape) (long : contents_bytes ≤ length s) (shape : h ≡ shape_of s) where
  pub contents_from_rows : contents_of s ≡ then_some (rows_good s h) h
  unfolding contents_of layout_read
  contents_from_rows = rw (le-leb _ _ long, ← shape) (picked (rows_good s h))
    where
      picked : (b : Bool) → pick_contents b h ≡ then_some b h
      picked true = refl
      picked false = refl

  pub contents_right : rows_good s h ≡ true → contents_of s ≡ Some h
  contents_right e = rw e at contents_from_rows

  pub contents_wrong : rows_good s h ≡ false → contents_of s ≡ None
  contents_wrong e = rw e at contents_from_rows

-- the shape, field by field
pub shape_is : (s : List ℕ) (a b c d w : ℕ) → a ≡ number_at 2 s 6 → b ≡ number_at 2 s 14 → c ≡ number_at 2 s 22 → d ≡ number_at 2 s 30 → w ≡ width_of s
    → ◌≡◌ {A = Shape} (record { inodes = a; entries = b; texts = c; handles = d; width = w }) (shape_of s)
unfolding shape_of
shape_is s a b c d w p q r t u = λ i. record { inodes = p i; entries = q i; texts = r i; handles = t i; width = u i }

-- the ways out of comparing the rows
module _ (s : List ℕ) (h : Shape) where
  pub rows_not : (k : ℕ) → k < 5 → row_good s h k ≡ false → rows_good s h ≡ false
  unfolding rows_good
  rows_not k l e = rw (all_not (row_good s h) 5 k l e)

  pub rows_end : row_good s h 0 ≡ true → row_good s h 1 ≡ true → row_good s h 2 ≡ true → row_good s h 3 ≡ true → row_good s h 4 ≡ true
      → rows_good s h ≡ eqb (length s) (image_bytes h)
  unfolding rows_good all
  rows_end a b c d e = rw (a, b, c, d, e)

-- what the code reads is the rules, section by section
module _ (s : List ℕ) where
  abbrev counts : ℕ → Bool
  counts k = leb (fewest k) (count_in s k) && leb (count_in s k) (most (shape_of s).width k)

  -- the one journal record
  one_journal : (n : ℕ) → leb 1 n ≡ true → leb n 1 ≡ true → n ≡ 1
  one_journal n a b = let l : 1 ≤ n = leb-true 1 n a in let m : n ≤ 1 = leb-true n 1 b in omega arith

  read_good : layout_read s ≡ true → layout_good s ≡ true
  unfolding layout_good layout_read rows_good row_good row_is
  read_good e =
      let there = and_left (leb contents_bytes (length s)) _ e in
      let rows = and_left (all (row_good s (shape_of s)) 5) _ (and_right (leb contents_bytes (length s)) _ e) in
      let row : (k : ℕ) → k < 5 → row_good s (shape_of s) k ≡ true = all_at (row_good s (shape_of s)) 5 rows in
      let last = row 4 (lit< tt) in
      let one : count_in s 4 ≡ 1 = one_journal (count_in s 4) (search (and_left, and_right)) (search (and_left, and_right)) in
      is_every (
      there
      & all_of (section_named s) 5 (λ k l. implies_of (contents_there s) (name_is s (8 * k) (section_name (shape_of s).width k)) (λ _. let r = row k l in search (and_left, and_right)))
      & all_of (section_placed s) 5 (λ k l. implies_of (contents_there s) (eqb (offset_in s k) (base (shape_of s) k)) (λ _. let r = row k l in search (and_left, and_right)))
      & implies_of (contents_there s) (eqb (length s) (base (shape_of s) 4 + journal_size * count_in s 4)) (λ _. rw one (and_right (all (row_good s (shape_of s)) 5) _ (and_right (leb contents_bytes (length s)) _ e)))
      & all_of (section_counted s) 5 (λ k l. implies_of (contents_there s) (counts k) (λ _.
      let r = row k l in and_both (leb (fewest k) (count_in s k)) _ (search (and_left, and_right)) (search (and_left, and_right))))
      & no_more
      )

  -- ---- from the rules

  module _ (e : layout_good s ≡ true) where
    rule : (k : ℕ) → get_or (layout_rules s) k true ≡ true
    unfolding layout_good
    rule = every_at (layout_rules s) e

    counted : (k : ℕ) → k < 5 → counts k ≡ true
    counted k l = implies_at (contents_there s) (counts k) (all_at (section_counted s) 5 (rule 4) k l) (rule 0)

    pub one_record : count_in s 4 ≡ 1
    one_record = one_journal (count_in s 4) (and_left (leb 1 (count_in s 4)) _ (counted 4 (lit< tt))) (and_right (leb 1 (count_in s 4)) _ (counted 4 (lit< tt)))

    pub ends : eqb (length s) (image_bytes (shape_of s)) ≡ true
    ends = rw one_record at (implies_at (contents_there s) (eqb (length s) (base (shape_of s) 4 + journal_size * count_in s 4)) (rule 3) (rule 0))

    good_read : layout_read s ≡ true
    unfolding layout_read rows_good row_good row_is
    good_read =
        rw (
          rule 0,
          all_of (row_good s (shape_of s)) 5 (λ k l.
              let named = implies_at (contents_there s) (name_is s (8 * k) (section_name (shape_of s).width k)) (all_at (section_named s) 5 (rule 1) k l) (rule 0) in
              let at = implies_at (contents_there s) (eqb (offset_in s k) (base (shape_of s) k)) (all_at (section_placed s) 5 (rule 2) k l) (rule 0) in
              rw (named, at, and_left (leb (fewest k) (count_in s k)) _ (counted k l)) (and_right (leb (fewest k) (count_in s k)) _ (counted k l))),
          ends,
        )

  pub layout_read_lem : layout_read s ≡ layout_good s
  layout_read_lem = same_truth _ _ read_good good_read

-- the parts of a good layout
module _ (s : List ℕ) (good : layout_good s ≡ true) where
  count_within : (k : ℕ) → k < 5 → (fewest k ≤ count_in s k) × (count_in s k ≤ most (width_of s) k)
  unfolding shape_of
  count_within k l =
      let c = counted s good k l in
      (leb-true _ _ (and_left (leb (fewest k) (count_in s k)) _ c), leb-true _ _ (and_right (leb (fewest k) (count_in s k)) _ c))

  pub good_laid : Laid (shape_of s) s
  unfolding shape_of
  good_laid = record {
    inodes_least = (count_within 0 (lit< tt)).0;
    inodes_most = (count_within 0 (lit< tt)).1;
    entries_most = (count_within 1 (lit< tt)).1;
    texts_most = (count_within 2 (lit< tt)).1;
    handles_most = (count_within 3 (lit< tt)).1;
    width_least = lit≤ tt;
    width_most = lit≤ tt;
    small = omega (arith, (count_within 0 (lit< tt)).1, (count_within 1 (lit< tt)).1, (count_within 2 (lit< tt)).1, (count_within 3 (lit< tt)).1);
    long = eqb-true _ _ (ends s good);
  }

-- its entries end where 22 bits reach, so no sum of its places wraps
pub product : (h : Shape) → CountsFit h → h.width * h.entries < 4194304
product h c = let l = mul-le-mul_right h.entries c.width in omega (arith, c.entries)

pub image_fits : (h : Shape) → CountsFit h → image_bytes h < 18446744073709551616
image_fits h few = omega (arith, product h few, few.inodes, few.texts, few.handles)

pub contents_good : (s : List ℕ) (h : Shape) → contents_of s ≡ Some h → Read s h
unfolding contents_of
contents_good s h e = go (layout_read s) refl e
  where
    go : (b : Bool) → layout_read s ≡ b → pick_contents b (shape_of s) ≡ Some h → Read s h
    go true g q =
        let z : h ≡ shape_of s = cc in
        let good = sym (layout_read_lem s) ∙ g in
        record { good = good; shape = z; laid = subst (λ (x : Shape). Laid x s) (sym z) (good_laid s good) }
    go false g q = let z : ◌≡◌ {A = ℕ} 0 1 = cc in absurd (omega arith)

pub contents_bad : (s : List ℕ) → contents_of s ≡ None → layout_good s ≡ false
unfolding contents_of
contents_bad s e = sym (layout_read_lem s) ∙ go (layout_read s) e
  where
    go : (b : Bool) → pick_contents b (shape_of s) ≡ None → b ≡ false
    go true q = cc
    go false q = refl
