-- Stores of records: those of different records commute, a later one of the same record prevails, and none changes the layout. Assumes nothing.
use Rattle.std.specs.Prelude.{◌≡◌, refl, ◌⊎◌, ◌≢◌, List, ℕ, ◌+◌, ◌-◌, ◌*◌, ◌≤◌, ◌<◌, length, get_or}
use Rattle.std.proofs.Common.{sym, ◌∙◌, inr, ⊎_elim, arith, ext_get_or}
use Rattle.std.proofs.Math.Path.{ap, ap₂}
use Rattle.std.proofs.Math.Bool.{◌&&◌}
use Rattle.std.proofs.Math.Decide.{dec_lt}
use Rattle.std.proofs.Math.Dec.{eqb, leb}
use Rattle.seq.specs.Bytes.{put}
use Rattle.seq.specs.Number.{number_at}
use Rattle.seq.proofs.SearchLaws.{all_same}
use Rattle.seq.proofs.BytesLaws.{put_length, put_before, put_after, put_inside}
use Rattle.seq.proofs.NumberLaws.{number_same}
use Rattle.layout.specs.declared.Shape.{Shape}
use Rattle.layout.specs.Limits.{contents_bytes}
use Rattle.layout.specs.Place.{Key, record_bytes, place, image_bytes}
use Rattle.layout.specs.Facts.{Valid}
use Rattle.layout.proofs.PlaceLaws.{place_inside, behind_contents, apart}
use Rattle.layout.specs.Contents.{name_is, shape_of, layout_good, width_of}
use Rattle.layout.specs.ContentsRead.{row_is, row_good, rows_good, layout_read}
use Rattle.layout.proofs.ContentsLaws.{layout_read_lem}
use Rattle.layout.specs.Record.{store}

-- where an index stands against a range
data Where (j at n : ℕ) : Type 0 where
  before : j < at → Where j at n
  within : (k : ℕ) → k < n → j ≡ at + k → Where j at n
  behind : at + n ≤ j → Where j at n

where_is : (j at n : ℕ) → Where j at n
where_is j at n = go (dec_lt j at) (dec_lt j (at + n))
  where
    go : Dec (j < at) → Dec (j < at + n) → Where j at n
    go (yes l) q = before l
    go (no l) (yes m) = within (j - at) (omega arith) (omega arith)
    go (no l) (no m) = behind (omega arith)

-- bytes put in two places that do not overlap
module _ (xs : List ℕ) (at : ℕ) (ys : List ℕ) (bt : ℕ) (zs : List ℕ) (ay : at + length ys ≤ length xs) (bz : bt + length zs ≤ length xs)
    (sides : (at + length ys ≤ bt) ⊎ (bt + length zs ≤ at)) where
  long : (vs : List ℕ) (n : ℕ) (us : List ℕ) (m : ℕ) → m ≤ length vs → m ≤ length (put vs n us)
  long vs n us m l = rw (put_length vs n us) l

  pub put_swap : put (put xs at ys) bt zs ≡ put (put xs bt zs) at ys
  put_swap =
      ext_get_or 0 _ _ (rw (put_length (put xs at ys) bt zs, put_length xs at ys, put_length (put xs bt zs) at ys, put_length xs bt zs))
      (λ j b. each j (where_is j at (length ys)) (where_is j bt (length zs)))
    where
      each : (j : ℕ) → Where j at (length ys) → Where j bt (length zs) → get_or (put (put xs at ys) bt zs) j 0 ≡ get_or (put (put xs bt zs) at ys) j 0
      each j (before l) (before m) =
          put_before zs _ bt j m ∙ put_before ys xs at j l ∙ sym (put_before ys _ at j l ∙ put_before zs xs bt j m)
      each j (before l) (behind m) =
          put_after zs _ bt j m ∙ put_before ys xs at j l ∙ sym (put_before ys _ at j l ∙ put_after zs xs bt j m)
      each j (behind l) (before m) =
          put_before zs _ bt j m ∙ put_after ys xs at j l ∙ sym (put_after ys _ at j l ∙ put_before zs xs bt j m)
      each j (behind l) (behind m) =
          put_after zs _ bt j m ∙ put_after ys xs at j l ∙ sym (put_after ys _ at j l ∙ put_after zs xs bt j m)
      each j (within k l e) (before m) =
          put_before zs _ bt j m ∙ rw e (put_inside ys xs at k ay l ∙ sym (put_inside ys (put xs bt zs) at k (long xs bt zs _ ay) l))
      each j (within k l e) (behind m) =
          put_after zs _ bt j m ∙ rw e (put_inside ys xs at k ay l ∙ sym (put_inside ys (put xs bt zs) at k (long xs bt zs _ ay) l))
      each j (before l) (within k m e) =
          rw e (put_inside zs (put xs at ys) bt k (long xs at ys _ bz) m ∙ sym (put_inside zs xs bt k bz m)) ∙ sym (put_before ys _ at j l)
      each j (behind l) (within k m e) =
          rw e (put_inside zs (put xs at ys) bt k (long xs at ys _ bz) m ∙ sym (put_inside zs xs bt k bz m)) ∙ sym (put_after ys _ at j l)
      each j (within k l e) (within n m f) = absurd (⊎_elim (λ s. omega arith) (λ s. omega arith) sides)

-- bytes put twice in one place
pub put_again : (xs : List ℕ) (at : ℕ) (ys zs : List ℕ) → at + length zs ≤ length xs → length ys ≡ length zs → put (put xs at ys) at zs ≡ put xs at zs
put_again xs at ys zs h e =
    ext_get_or 0 _ _ (rw (put_length (put xs at ys) at zs, put_length xs at ys, put_length xs at zs)) (λ j b. each j (where_is j at (length zs)))
  where
    each : (j : ℕ) → Where j at (length zs) → get_or (put (put xs at ys) at zs) j 0 ≡ get_or (put xs at zs) j 0
    each j (before l) = put_before zs _ at j l ∙ put_before ys xs at j l ∙ sym (put_before zs xs at j l)
    each j (within k l f) = rw f (put_inside zs (put xs at ys) at k (rw (put_length xs at ys) h) l ∙ sym (put_inside zs xs at k h l))
    each j (behind l) = put_after zs _ at j l ∙ put_after ys xs at j (omega arith) ∙ sym (put_after zs xs at j l)

-- bytes put in two places, and both once more
pub put_both_again : (r : List ℕ) (a : ℕ) (xs : List ℕ) (b : ℕ) (ys : List ℕ) → a + length xs ≤ b → b + length ys ≤ length r
    → put (put (put (put r a xs) b ys) a xs) b ys ≡ put (put r a xs) b ys
put_both_again r a xs b ys below inside =
    let same_length : length (put r a xs) ≡ length r = put_length r a xs in
    ap (λ (z : List ℕ). put z b ys)
    (put_swap (put r a xs) b ys a xs (omega arith) (omega arith) (inr below)
    ∙ ap (λ (z : List ℕ). put z b ys) (put_again r a xs xs (omega arith) refl))
    ∙ put_again (put r a xs) b ys ys (omega arith) refl

-- the layout is a matter of the table of contents and the length
module _ (s t : List ℕ) (long : length s ≡ length t) (same : (j : ℕ) → j < contents_bytes → get_or s j 0 ≡ get_or t j 0) where
  two : (i : ℕ) → i + 2 ≤ contents_bytes → number_at 2 s i ≡ number_at 2 t i
  two i l = number_same 2 s t i i (λ n m. same (i + n) (omega arith))

  width_same : width_of s ≡ width_of t
  width_same = refl

  pub shape_same : shape_of s ≡ shape_of t
  unfolding shape_of
  shape_same =
      let a = two 6 (omega arith) in
      let b = two 14 (omega arith) in
      let c = two 22 (omega arith) in
      let d = two 30 (omega arith) in
      λ i. record { inodes = a i; entries = b i; texts = c i; handles = d i; width = width_same i }

  row_same : (h : Shape) (k : ℕ) → k < 5 → row_good s h k ≡ row_good t h k
  unfolding row_good row_is name_is
  row_same h k l =
      rw (same (8 * k) (omega arith), same (8 * k + 1) (omega arith), same (8 * k + 2) (omega arith), same (8 * k + 3) (omega arith), two (8 * k + 4) (omega arith), two (8 * k + 6) (omega arith))

  rows_same : (h : Shape) → rows_good s h ≡ rows_good t h
  unfolding rows_good
  rows_same h = ap₂ ◌&&◌ (all_same (row_good s h) (row_good t h) 5 (row_same h)) (ap (λ (n : ℕ). eqb n (image_bytes h)) long)

  read_same : layout_read s ≡ layout_read t
  unfolding layout_read
  read_same = ap₂ ◌&&◌ (ap (λ (n : ℕ). leb contents_bytes n) long) (rows_same (shape_of s) ∙ ap (λ (h : Shape). rows_good t h) shape_same)

  pub layout_same : layout_good s ≡ layout_good t
  layout_same = sym (layout_read_lem s) ∙ read_same ∙ layout_read_lem t

module _ (h : Shape) (s : List ℕ) (j : Key) (a : List ℕ) where
  contents_byte : (i : ℕ) → i < contents_bytes → get_or (store h s j a) i 0 ≡ get_or s i 0
  unfolding store
  contents_byte i l =
      let p = behind_contents h j.section j.index in
      put_before a s (place h j.section j.index) i (omega arith)

  kept_length : length (store h s j a) ≡ length s
  unfolding store
  kept_length = put_length s (place h j.section j.index) a

  -- a store changes neither the shape nor whether the layout is good
  pub store_shape : shape_of (store h s j a) ≡ shape_of s
  store_shape = shape_same _ _ kept_length contents_byte

  pub store_layout : layout_good (store h s j a) ≡ layout_good s
  store_layout = layout_same _ _ kept_length contents_byte

  module _ (long : length s ≡ image_bytes h) (u : Valid h j) (fits-a : length a ≡ record_bytes h j.section) where
    -- stores of different records, in either order
    pub store_swap : (k : Key) (b : List ℕ) → Valid h k → length b ≡ record_bytes h k.section → j ≢ k → store h (store h s j a) k b ≡ store h (store h s k b) j a
    unfolding store
    store_swap k b v fits-b differ =
        let i = place_inside h j.section j.index u.in_image u.in_section in
        let e = place_inside h k.section k.index v.in_image v.in_section in
        put_swap s (place h j.section j.index) a (place h k.section k.index) b (omega arith) (omega arith) (rw (fits-a, fits-b) (apart h j k u v differ))
