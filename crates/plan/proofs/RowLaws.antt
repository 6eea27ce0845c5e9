-- Rows put into a plan are read back from it, and leave every other row and byte as it was. Assumes nothing.
use Rattle.std.specs.Prelude.{◌≡◌, refl, ◌⊎◌, ◌≢◌, ℕ, ◌+◌, ◌-◌, ◌≤◌, ◌<◌, length, take, drop}
use Rattle.std.proofs.Math.Path.{sym, ap, subst}
use Rattle.std.proofs.Common.{◌∙◌, ⊎_elim, add-zero}
use Rattle.std.proofs.Math.Logic.{inl, inr}
use mathlib.Core.List.{List}
use Rattle.std.proofs.Math.Decide.{dec_lt}
use native.Mathlib.Omega.{arith}
use Rattle.std.proofs.Math.ListN.{get_or}
use Rattle.seq.specs.Bytes.{part, put}
use Rattle.seq.specs.Number.{number_at, bytes_of}
use Rattle.seq.proofs.BytesLaws.{part_byte, part_length, part_range, put_length, put_part, put_part_other, put_after}
use Rattle.seq.proofs.NumberLaws.{number_part}
use Rattle.layout.specs.Facts.{Reads}
use Rattle.plan.specs.Form.{Row, plan_rows, header_bytes, body_bytes, plan_bytes, header_at, body_at, row_group, row_blank, row_length, row_offset, row_position, row_at, header_of, row_stored}
use Rattle.plan.specs.Stands.{RowFormed, Fields, header, Stands}

-- a body as the code takes it, `&plan[at..at + n]`
pub reads_body : (plan : List ℕ) (i n : ℕ) → plan_bytes ≤ length plan → i < plan_rows → n ≤ body_bytes → n ≡ row_length plan i
    → Reads (take (body_at i + n - body_at i) (drop (body_at i) plan)) (row_at plan i).body (row_length plan i)
unfolding row_at
reads_body plan i n long below small e =
    let same : take (body_at i + n - body_at i) (drop (body_at i) plan) ≡ part plan (body_at i) (row_length plan i) =
    part_range plan (body_at i) n ∙ ap (λ (m : ℕ). part plan (body_at i) m) e in
    record { is = same; long = ap (λ (x : List ℕ). length x) same ∙ part_length plan (body_at i) (row_length plan i) (omega arith) }

pub fields : (plan : List ℕ) (i : ℕ) → Fields plan i (header plan i)
fields plan i = record {
  group = sym (part_byte plan (header_at i) header_bytes 0 (omega arith) ∙ ap (λ (n : ℕ). get_or plan n 0) (add-zero (header_at i)));
  blank = sym (part_byte plan (header_at i) header_bytes 1 (omega arith));
  length = sym (number_part 2 plan (header_at i) header_bytes 2 (omega arith));
  offset = sym (number_part 2 plan (header_at i) header_bytes 4 (omega arith));
  position = sym (number_part 2 plan (header_at i) header_bytes 6 (omega arith));
}

pub header_length : (i : ℕ) (r : Row) → length (header_of i r) ≡ header_bytes
unfolding header_of bytes_of
header_length i r = refl

-- the plan's length stays
pub row_length_lem : (plan : List ℕ) (i : ℕ) (r : Row) → length (row_stored plan i r) ≡ length plan
unfolding row_stored
row_length_lem plan i r = put_length (put plan (header_at i) (header_of i r)) (body_at i) r.body ∙ put_length plan (header_at i) (header_of i r)

-- so do the bytes past the plan
pub row_past : (plan : List ℕ) (i : ℕ) (r : Row) → i < plan_rows → length r.body ≤ body_bytes → (j : ℕ) → plan_bytes ≤ j → get_or (row_stored plan i r) j 0 ≡ get_or plan j 0
unfolding row_stored
row_past plan i r below fits j past =
    put_after r.body (put plan (header_at i) (header_of i r)) (body_at i) j (omega arith)
    ∙ put_after (header_of i r) plan (header_at i) j (omega (arith, header_length i r))

-- a row is read back
module _ (plan : List ℕ) (i : ℕ) (r : Row) (long : plan_bytes ≤ length plan) (below : i < plan_rows) where
  pub header_same : header (row_stored plan i r) i ≡ header_of i r
  unfolding row_stored
  header_same =
      put_part_other (put plan (header_at i) (header_of i r)) (body_at i) r.body (header_at i) header_bytes (inl (omega arith))
      ∙ subst (λ (n : ℕ). part (put plan (header_at i) (header_of i r)) (header_at i) n ≡ header_of i r) (header_length i r)
      (put_part plan (header_at i) (header_of i r) (omega (arith, header_length i r)))

  pub group_same : row_group (row_stored plan i r) i ≡ r.group
  unfolding header_of
  group_same = (fields (row_stored plan i r) i).group ∙ ap (λ (x : List ℕ). get_or x 0 0) header_same

  pub blank_same : row_blank (row_stored plan i r) i ≡ 0
  unfolding header_of
  blank_same = (fields (row_stored plan i r) i).blank ∙ ap (λ (x : List ℕ). get_or x 1 0) header_same

  pub position_same : row_position (row_stored plan i r) i ≡ body_at i
  unfolding header_of number_at bytes_of
  position_same = (fields (row_stored plan i r) i).position ∙ ap (λ (x : List ℕ). number_at 2 x 6) header_same ∙ omega arith

  module _ (formed : RowFormed r) where
    pub length_same : row_length (row_stored plan i r) i ≡ r.bytes
    unfolding header_of number_at bytes_of
    length_same =
        (fields (row_stored plan i r) i).length ∙ ap (λ (x : List ℕ). number_at 2 x 2) header_same ∙ omega (arith, formed.body_fits)

    pub offset_same : row_offset (row_stored plan i r) i ≡ r.offset
    unfolding header_of number_at bytes_of
    offset_same =
        (fields (row_stored plan i r) i).offset ∙ ap (λ (x : List ℕ). number_at 2 x 4) header_same ∙ omega (arith, formed.offset_small)

    body_same : part (row_stored plan i r) (body_at i) (row_length (row_stored plan i r) i) ≡ r.body
    unfolding row_stored
    body_same =
        ap (λ (n : ℕ). part (row_stored plan i r) (body_at i) n) (length_same ∙ sym formed.whole)
        ∙ put_part (put plan (header_at i) (header_of i r)) (body_at i) r.body
        (omega (arith, put_length plan (header_at i) (header_of i r), formed.whole, formed.body_fits))

    pub row_same : row_at (row_stored plan i r) i ≡ r
    unfolding row_at
    row_same = λ t. record { group = group_same t; offset = offset_same t; bytes = length_same t; body = body_same t }

    pub row_stands : Stands (row_stored plan i r) i r
    row_stands = record { row = row_same; blank = blank_same; position = position_same }

-- every other row is as before
module _ (plan : List ℕ) (i j : ℕ) (r : Row) (fits : length r.body ≤ body_bytes) (in-i : i < plan_rows) (in-j : j < plan_rows) (differ : i ≢ j) where
  sides : (i < j) ⊎ (j < i)
  sides = go (dec_lt i j) (dec_lt j i)
    where
      go : Dec (i < j) → Dec (j < i) → (i < j) ⊎ (j < i)
      go (yes l) q = inl l
      go (no l) (yes q) = inr q
      go (no l) (no q) = absurd (differ (omega arith))

  pub header_other : header (row_stored plan j r) i ≡ header plan i
  unfolding row_stored
  header_other =
      put_part_other (put plan (header_at j) (header_of j r)) (body_at j) r.body (header_at i) header_bytes (inl (omega arith))
      ∙ put_part_other plan (header_at j) (header_of j r) (header_at i) header_bytes
      (⊎_elim (λ l. inl (omega arith)) (λ l. inr (omega (arith, header_length j r))) sides)

  body_other : (n : ℕ) → n ≤ body_bytes → part (row_stored plan j r) (body_at i) n ≡ part plan (body_at i) n
  unfolding row_stored
  body_other n b =
      put_part_other (put plan (header_at j) (header_of j r)) (body_at j) r.body (body_at i) n (⊎_elim (λ l. inl (omega arith)) (λ l. inr (omega arith)) sides)
      ∙ put_part_other plan (header_at j) (header_of j r) (body_at i) n (inr (omega (arith, header_length j r)))

  pub row_other : row_length plan i ≤ body_bytes → row_at (row_stored plan j r) i ≡ row_at plan i
  unfolding row_at
  row_other b =
      let a = fields (row_stored plan j r) i in
      let o = fields plan i in
      let group : row_group (row_stored plan j r) i ≡ row_group plan i = a.group ∙ ap (λ (x : List ℕ). get_or x 0 0) header_other ∙ sym o.group in
      let offset : row_offset (row_stored plan j r) i ≡ row_offset plan i = a.offset ∙ ap (λ (x : List ℕ). number_at 2 x 4) header_other ∙ sym o.offset in
      let bytes : row_length (row_stored plan j r) i ≡ row_length plan i = a.length ∙ ap (λ (x : List ℕ). number_at 2 x 2) header_other ∙ sym o.length in
      let body : part (row_stored plan j r) (body_at i) (row_length (row_stored plan j r) i) ≡ part plan (body_at i) (row_length plan i) =
      ap (λ (n : ℕ). part (row_stored plan j r) (body_at i) n) bytes ∙ body_other (row_length plan i) b in
      λ t. record { group = group t; offset = offset t; bytes = bytes t; body = body t }

  pub stands_other : (q : Row) → RowFormed q → Stands plan i q → Stands (row_stored plan j r) i q
  unfolding row_at
  stands_other q formed stands =
      let bytes : row_length plan i ≡ q.bytes = ap (λ (x : Row). x.bytes) stands.row in
      let a = fields (row_stored plan j r) i in
      let o = fields plan i in
      record {
        row = row_other (omega (arith, formed.body_fits)) ∙ stands.row;
        blank = a.blank ∙ ap (λ (x : List ℕ). get_or x 1 0) header_other ∙ sym o.blank ∙ stands.blank;
        position = a.position ∙ ap (λ (x : List ℕ). number_at 2 x 6) header_other ∙ sym o.position ∙ stands.position;
      }
