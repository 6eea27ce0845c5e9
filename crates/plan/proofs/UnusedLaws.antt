-- Rows leave the bytes that they do not use as they were, so in a plan that was cleared first these are zero (rule 82). Assumes nothing.
use Rattle.std.specs.Prelude.{◌≡◌, refl, Bool, true, false, ◌&&◌, ◌||◌, List, [], ◌∷◌, ℕ, ◌+◌, ◌≤◌, ◌<◌, leb, ltb, length, get_or}
use Rattle.std.proofs.Common.{sym, ◌∙◌, arith, leb-false, ltb-false}
use Rattle.std.proofs.lemmas.Bool.{false≢true}
use Rattle.seq.specs.Bytes.{put}
use Rattle.seq.proofs.BytesLaws.{put_before, put_after}
use Rattle.plan.specs.Form.{Row, header_bytes, plan_bytes, header_at, body_at, header_of, row_stored, rows_put, cleared}
use Rattle.plan.proofs.Many.{cleared_byte}
use Rattle.plan.specs.Unused.{in_range, in_row, in_rows}
use Rattle.plan.proofs.RowLaws.{header_length}

neither : {A : Type 0} (a b : Bool) → (a || b) ≡ false → (a ≡ false → b ≡ false → A) → A
neither true b e f = absurd (false≢true (sym e))
neither false b e f = f refl e

-- bytes put elsewhere leave a byte as it is
put_elsewhere : (xs : List ℕ) (at : ℕ) (ys : List ℕ) (n j : ℕ) → length ys ≡ n → in_range at n j ≡ false → get_or (put xs at ys) j 0 ≡ get_or xs j 0
put_elsewhere xs at ys n j e out = go (leb at j) refl out
  where
    go : (b : Bool) → leb at j ≡ b → (b && ltb j (at + n)) ≡ false → get_or (put xs at ys) j 0 ≡ get_or xs j 0
    go true h out = let l = ltb-false j (at + n) out in put_after ys xs at j (omega arith)
    go false h out = let l = leb-false at j h in put_before ys xs at j (omega arith)

row_elsewhere : (plan : List ℕ) (i : ℕ) (r : Row) (j : ℕ) → in_row i r j ≡ false → get_or (row_stored plan i r) j 0 ≡ get_or plan j 0
unfolding in_row row_stored
row_elsewhere plan i r j out =
    neither (in_range (header_at i) header_bytes j) _ out (λ not-header not-IsBody.
    put_elsewhere _ (body_at i) r.body (length r.body) j refl not-IsBody
    ∙ put_elsewhere plan (header_at i) (header_of i r) header_bytes j (header_length i r) not-header)

-- rows leave every byte that they do not use
pub rows_elsewhere : (rs : List Row) (plan : List ℕ) (i j : ℕ) → in_rows i rs j ≡ false → get_or (rows_put plan i rs) j 0 ≡ get_or plan j 0
unfolding in_rows rows_put
rows_elsewhere [] plan i j out = refl
rows_elsewhere (r ∷ rs) plan i j out =
    neither (in_row i r j) _ out (λ not-here not_behind.
    rows_elsewhere rs (row_stored plan i r) (i + 1) j not_behind ∙ row_elsewhere plan i r j not-here)

-- rule 82: what no row uses is zero
pub unused_zero : (rs : List Row) (plan : List ℕ) (j : ℕ) → plan_bytes ≤ length plan → j < plan_bytes → in_rows 0 rs j ≡ false → get_or (rows_put (cleared plan) 0 rs) j 0 ≡ 0
unused_zero rs plan j long below out = rows_elsewhere rs (cleared plan) 0 j out ∙ cleared_byte plan j long below
