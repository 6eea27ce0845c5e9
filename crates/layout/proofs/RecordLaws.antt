-- Laws of records: read as stored, and what a store leaves of the others. Assumes nothing.
use Rattle.std.specs.Prelude.{◌≡◌, ◌≢◌, length, take, drop}
use Rattle.std.proofs.Math.Path.{sym, ap₂, subst}
use Rattle.std.proofs.Common.{ap, ◌∙◌, inl, le_refl, take-add, take_all}
use mathlib.Core.List.{List, ◌++◌}
use Prim.Native.Nat.{ℕ, zero, suc, ◌+◌, ◌-◌, ◌≤◌, ◌<◌}
use Rattle.std.proofs.Math.Nat.{mul-suc}
use native.Mathlib.Omega.{arith}
use Rattle.seq.specs.Bytes.{part, put}
use Rattle.seq.proofs.BytesLaws.{part_length, part_range, put_length, put_part, put_part_other}
use Rattle.layout.specs.declared.Shape.{Shape}
use Rattle.layout.specs.Limits.{contents_bytes}
use Rattle.layout.specs.Place.{Key, record_bytes, records, base, place, image_bytes}
use Rattle.layout.specs.Facts.{Valid, Reads}
use Rattle.layout.proofs.PlaceLaws.{place_inside, behind_contents, apart}
use Rattle.layout.specs.Record.{record_at, store}

-- a field that was read from such a record is the record's
pub field_of : {A : Type 0} {r x : List ℕ} {n : ℕ} {v : A} (f : List ℕ → A) → Reads r x n → v ≡ f r → v ≡ f x
field_of f reads e = e ∙ ap f reads.is

pub record_length : (h : Shape) (s : List ℕ) (k i : ℕ) → length s ≡ image_bytes h → k < 5 → i < records h k → length (record_at h s k i) ≡ record_bytes h k
unfolding record_at
record_length h s k i long l b = part_length s (place h k i) (record_bytes h k) (let e = place_inside h k i l b in omega arith)

-- a record as the code takes it, `&s[at..at + n]`
pub reads_record : (h : Shape) (s : List ℕ) (k i at n : ℕ) → length s ≡ image_bytes h → k < 5 → i < records h k → at ≡ place h k i → record_bytes h k ≡ n
    → Reads (take (at + n - at) (drop at s)) (record_at h s k i) n
unfolding record_at
reads_record h s k i at n long l b begins whole =
    let same : take (at + n - at) (drop at s) ≡ part s (place h k i) (record_bytes h k) =
    part_range s at n ∙ ap₂ (λ (a m : ℕ). part s a m) begins (sym whole) in
    record { is = same; long = ap (λ (x : List ℕ). length x) same ∙ record_length h s k i long l b ∙ whole }

module _ (h : Shape) where
  module _ (s b : List ℕ) (k : Key) (long : length s ≡ image_bytes h) (valid : Valid h k) (fits : length b ≡ record_bytes h k.section) where
    ends : place h k.section k.index + length b ≤ length s
    ends = let e = place_inside h k.section k.index valid.in_image valid.in_section in omega arith

    pub store_length : length (store h s k b) ≡ length s
    unfolding store
    store_length = put_length s (place h k.section k.index) b

    -- the record is read back
    pub store_same : record_at h (store h s k b) k.section k.index ≡ b
    unfolding store record_at
    store_same =
        subst (λ (n : ℕ). part (put s (place h k.section k.index) b) (place h k.section k.index) n ≡ b) fits
        (put_part s (place h k.section k.index) b ends)

    -- every other record is untouched
    pub store_other : (j : Key) → Valid h j → j ≢ k → record_at h (store h s k b) j.section j.index ≡ record_at h s j.section j.index
    unfolding store record_at
    store_other j u differ =
        put_part_other s (place h k.section k.index) b (place h j.section j.index) (record_bytes h j.section) (rw fits (apart h j k u valid differ))

    -- the table of contents stays
    pub store_contents : part (store h s k b) 0 contents_bytes ≡ part s 0 contents_bytes
    unfolding store
    store_contents =
        put_part_other s (place h k.section k.index) b 0 contents_bytes (inl (behind_contents h k.section k.index))

  -- images of one shape with the same table of contents and the same records are the same bytes
  module _ (s t : List ℕ) (ls : length s ≡ image_bytes h) (lt : length t ≡ image_bytes h) (contents : part s 0 contents_bytes ≡ part t 0 contents_bytes)
      (same : (k i : ℕ) → k < 5 → i < records h k → record_at h s k i ≡ record_at h t k i) where
    within : (k : ℕ) → k < 5 → take (base h k) s ≡ take (base h k) t → (i : ℕ) → i ≤ records h k → take (place h k i) s ≡ take (place h k i) t
    unfolding record_at part
    within k v e zero l = let z : place h k zero ≡ base h k = omega arith in rw z e
    within k v e (suc i) l =
        let z : place h k (suc i) ≡ place h k i + record_bytes h k = let m = mul-suc (record_bytes h k) i in omega arith in
        rw z (take-add (place h k i) (record_bytes h k) s
        ∙ ap₂ (λ (x y : List ℕ). x ++ y) (within k v e i (omega arith)) (same k i v l)
        ∙ sym (take-add (place h k i) (record_bytes h k) t))

    upto : (k : ℕ) → k ≤ 5 → take (base h k) s ≡ take (base h k) t
    unfolding part
    upto zero l = contents
    upto (suc k) l = within k l (upto k (omega arith)) (records h k) (le_refl (records h k))

    pub same_image : s ≡ t
    same_image = sym (take_all (image_bytes h) s (omega arith)) ∙ upto 5 (le_refl 5) ∙ take_all (image_bytes h) t (omega arith)
