-- Rows put one after another into a plan: each is read back, and their count is how many they are. Assumes nothing.
use Rattle.std.specs.Prelude.{◌≡◌, refl, true, false, ℕ, zero, suc, ◌+◌, ◌≤◌, ◌<◌, eqb, length, replicate}
use Rattle.std.proofs.Math.Path.{sym, ap}
use Rattle.std.proofs.Common.{◌∙◌, subst, add-zero, not-suc-le-zero, eq-or-lt_of_le, arith, eq-eqb, ne_eqb}
use Rattle.std.proofs.Math.Logic.{⊎_elim}
use mathlib.Core.List.{List, [], ◌∷◌, ◌++◌}
use Rattle.std.proofs.Math.Nat.{zero-add}
use Rattle.std.proofs.Math.ListN.{get_or}
use Rattle.std.proofs.lemmas.List.{get_or-replicate, length-replicate}
use Rattle.seq.specs.Search.{any}
use Rattle.seq.specs.Bytes.{put, zeros}
use Rattle.seq.proofs.SearchLaws.{any_false, all_not, all_of, first_hit, first_none}
use Rattle.seq.proofs.BytesLaws.{part_byte, put_length, put_inside, put_after}
use Rattle.plan.specs.Form.{Row, plan_rows, header_bytes, body_bytes, plan_bytes, header_at, row_group, row_at, row_stored, rows_put, cleared, no_row, count_of_rows}
use Rattle.plan.specs.Stands.{RowFormed, Stands, header, Each}
use Rattle.plan.proofs.RowLaws.{row_length_lem, row_past, row_stands, header_other, stands_other}

pub each_at : (P : Row → Type 0) (d : Row) (rs : List Row) → Each P rs → (k : ℕ) → k < length rs → P (get_or rs k d)
each_at P d [] e k l = absurd (not-suc-le-zero l)
each_at P d (r ∷ rs) e zero l = e.0
each_at P d (r ∷ rs) e (suc k) l = each_at P d rs e.1 k (omega arith)

-- the length stays, and so do the bytes past the plan
pub rows_length : (rs : List Row) (plan : List ℕ) (i : ℕ) → length (rows_put plan i rs) ≡ length plan
unfolding rows_put
rows_length [] plan i = refl
rows_length (r ∷ rs) plan i = rows_length rs (row_stored plan i r) (i + 1) ∙ row_length_lem plan i r

-- rows put behind others
pub rows_join : (rs qs : List Row) (plan : List ℕ) (i : ℕ) → rows_put plan i (rs ++ qs) ≡ rows_put (rows_put plan i rs) (i + length rs) qs
unfolding rows_put
rows_join [] qs plan i = ap (λ (n : ℕ). rows_put plan n qs) (sym (add-zero i))
rows_join (r ∷ rs) qs plan i =
    let e : i + 1 + length rs ≡ i + suc (length rs) = omega arith in
    rows_join rs qs (row_stored plan i r) (i + 1) ∙ ap (λ (n : ℕ). rows_put (rows_put (row_stored plan i r) (i + 1) rs) n qs) e

fits : (r : Row) → RowFormed r → length r.body ≤ body_bytes
fits r f = omega (arith, f.whole, f.body_fits)

pub rows_past : (rs : List Row) (plan : List ℕ) (i : ℕ) → i + length rs ≤ plan_rows → Each RowFormed rs → (j : ℕ) → plan_bytes ≤ j → get_or (rows_put plan i rs) j 0 ≡ get_or plan j 0
unfolding rows_put
rows_past [] plan i room formed j past = refl
rows_past (r ∷ rs) plan i room formed j past =
    rows_past rs (row_stored plan i r) (i + 1) (omega arith) formed.1 j past ∙ row_past plan i r (omega arith) (fits r formed.0) j past

-- rows in front stand, and headers behind stay
pub rows_before : (rs : List Row) (plan : List ℕ) (i j : ℕ) (q : Row) → j < i → i + length rs ≤ plan_rows → Each RowFormed rs → RowFormed q → Stands plan j q → Stands (rows_put plan i rs) j q
unfolding rows_put
rows_before [] plan i j q l room formed fq stands = stands
rows_before (r ∷ rs) plan i j q l room formed fq stands =
    rows_before rs (row_stored plan i r) (i + 1) j q (omega arith) (omega arith) formed.1 fq
    (stands_other plan j i r (fits r formed.0) (omega arith) (omega arith) (λ e. omega arith) q fq stands)

pub rows_behind : (rs : List Row) (plan : List ℕ) (i j : ℕ) → i + length rs ≤ j → j < plan_rows → Each RowFormed rs → header (rows_put plan i rs) j ≡ header plan j
unfolding rows_put
rows_behind [] plan i j l room formed = refl
rows_behind (r ∷ rs) plan i j l room formed =
    rows_behind rs (row_stored plan i r) (i + 1) j (omega arith) room formed.1
    ∙ header_other plan j i r (fits r formed.0) room (omega arith) (λ e. omega arith)

-- each row stands in its place
pub rows_stand : (d : Row) (rs : List Row) (plan : List ℕ) (i : ℕ) → plan_bytes ≤ length plan → i + length rs ≤ plan_rows → Each RowFormed rs
    → (k : ℕ) → k < length rs → Stands (rows_put plan i rs) (i + k) (get_or rs k d)
unfolding rows_put
rows_stand d [] plan i long room formed k l = absurd (not-suc-le-zero l)
rows_stand d (r ∷ rs) plan i long room formed zero l =
    rw add-zero (rows_before rs (row_stored plan i r) (i + 1) i r (omega arith) (omega arith) formed.1 formed.0 (row_stands plan i r long (omega arith) formed.0))
rows_stand d (r ∷ rs) plan i long room formed (suc k) l =
    let e : i + suc k ≡ i + 1 + k = omega arith in
    rw e (rows_stand d rs (row_stored plan i r) (i + 1) (omega (arith, row_length_lem plan i r)) (omega arith) formed.1 k (omega arith))

-- a cleared plan holds zeros, and bytes past it stay
zero_byte : (plan : List ℕ) (n j : ℕ) → n ≤ length plan → j < n → get_or (put plan 0 (replicate n 0)) j 0 ≡ 0
zero_byte plan n j long l =
    let e : length (replicate {A = ℕ} n 0) ≡ n = length-replicate n 0 in
    ap (λ (k : ℕ). get_or (put plan 0 (replicate n 0)) k 0) (sym (zero-add j)) ∙ put_inside (replicate n 0) plan 0 j (omega arith) (omega arith) ∙ get_or-replicate n j 0 0 l

stays_byte : (plan : List ℕ) (n j : ℕ) → n ≤ j → get_or (put plan 0 (replicate n 0)) j 0 ≡ get_or plan j 0
stays_byte plan n j l =
    let e : length (replicate {A = ℕ} n 0) ≡ n = length-replicate n 0 in
    put_after (replicate n 0) plan 0 j (omega arith)

pub cleared_length : (plan : List ℕ) → length (cleared plan) ≡ length plan
unfolding cleared
cleared_length plan = put_length plan 0 _

pub cleared_byte : (plan : List ℕ) (j : ℕ) → plan_bytes ≤ length plan → j < plan_bytes → get_or (cleared plan) j 0 ≡ 0
unfolding cleared
cleared_byte plan j long l = zero_byte plan plan_bytes j long l

pub cleared_past : (plan : List ℕ) (j : ℕ) → plan_bytes ≤ j → get_or (cleared plan) j 0 ≡ get_or plan j 0
unfolding cleared
cleared_past plan j l = stays_byte plan plan_bytes j l

-- a header of zeros is no row, and a row with an ordering group is one
none_there : (plan : List ℕ) (i : ℕ) → ((k : ℕ) → k < header_bytes → get_or (header plan i) k 0 ≡ 0) → no_row plan i ≡ true
unfolding no_row zeros
none_there plan i f =
    all_of (λ k. eqb (get_or plan (header_at i + k) 0) 0) header_bytes (λ k l. eq-eqb _ _ (sym (part_byte plan (header_at i) header_bytes k l) ∙ f k l))

one_there : (plan : List ℕ) (i : ℕ) → 1 ≤ row_group plan i → no_row plan i ≡ false
unfolding no_row zeros
one_there plan i some =
    all_not (λ k. eqb (get_or plan (header_at i + k) 0) 0) header_bytes 0 (omega arith) (rw add-zero (ne_eqb (row_group plan i) 0 (λ e. omega arith)))

-- rows in a cleared plan: the count of rows is theirs
module _ (rs : List Row) (plan : List ℕ) (long : plan_bytes ≤ length plan) (room : length rs ≤ plan_rows) (formed : Each RowFormed rs)
    (grouped : Each (λ r. 1 ≤ r.group) rs) where
  filled : List ℕ
  filled = rows_put (cleared plan) 0 rs

  row_there : (k : ℕ) → k < length rs → no_row filled k ≡ false
  unfolding filled row_at
  row_there k l =
      let d : Row = record { group = 0; offset = 0; bytes = 0; body = [] } in
      let s = rows_stand d rs (cleared plan) 0 (omega (arith, cleared_length plan)) (omega arith) formed k l in
      let g : row_group filled k ≡ (get_or rs k d).group = ap (λ (r : Row). r.group) (rw zero-add at s.row) in
      one_there filled k (omega (arith, each_at (λ r. 1 ≤ r.group) d rs grouped k l))

  no_row_there : length rs < plan_rows → no_row filled (length rs) ≡ true
  unfolding filled
  no_row_there l =
      none_there filled (length rs) (λ k b.
      ap (λ (x : List ℕ). get_or x k 0) (rows_behind rs (cleared plan) 0 (length rs) (omega arith) l formed)
      ∙ part_byte (cleared plan) (header_at (length rs)) header_bytes k b ∙ cleared_byte plan (header_at (length rs) + k) long (omega arith))

  pub rows_count : count_of_rows (rows_put (cleared plan) 0 rs) ≡ length rs
  unfolding count_of_rows filled
  rows_count =
      ⊎_elim
      (λ e. first_none (no_row filled) plan_rows (subst (λ (n : ℕ). any (no_row filled) n ≡ false) e (any_false (no_row filled) (length rs) row_there)) ∙ sym e)
      (λ l. first_hit (no_row filled) plan_rows (length rs) l (any_false (no_row filled) (length rs) row_there) (no_row_there l))
      (eq-or-lt_of_le room)
