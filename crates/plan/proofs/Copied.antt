-- A plan made apart and then copied over a buffer: it is the plan made in that buffer (rules 79 and 82). Assumes nothing.
use Rattle.std.specs.Prelude.{◌≡◌, ℕ, ◌+◌, ◌≤◌, ◌<◌, length}
use Rattle.std.proofs.Math.Path.{refl, ap}
use Rattle.std.proofs.Common.{◌∙◌, arith}
use mathlib.Core.List.{List, [], ◌∷◌}
use Rattle.seq.specs.Bytes.{put}
use Rattle.seq.proofs.BytesLaws.{put_length, put_within}
use Rattle.plan.specs.Form.{Row, plan_rows, body_bytes, plan_bytes, header_at, body_at, header_of, row_stored, rows_put}
use Rattle.plan.specs.Stands.{Each}
use Rattle.plan.specs.Added.{BodyFits}
use Rattle.plan.proofs.RowLaws.{header_length, row_length_lem}

module _ (buffer : List ℕ) (long : plan_bytes ≤ length buffer) where
  row_copied : (plan : List ℕ) (i : ℕ) (r : Row) → length plan ≡ plan_bytes → i < plan_rows → length r.body ≤ body_bytes
      → row_stored (put buffer 0 plan) i r ≡ put buffer 0 (row_stored plan i r)
  unfolding row_stored
  row_copied plan i r whole below fits =
      let e = put_length plan (header_at i) (header_of i r) in
      ap (λ (xs : List ℕ). put xs (body_at i) r.body) (put_within buffer plan (header_at i) (header_of i r) (omega arith) (omega (arith, header_length i r)))
      ∙ put_within buffer (put plan (header_at i) (header_of i r)) (body_at i) r.body (omega arith) (omega arith)

  pub rows_copied : (rs : List Row) (plan : List ℕ) (i : ℕ) → length plan ≡ plan_bytes → i + length rs ≤ plan_rows → Each BodyFits rs
      → rows_put (put buffer 0 plan) i rs ≡ put buffer 0 (rows_put plan i rs)
  unfolding rows_put
  rows_copied [] plan i whole room fits = refl
  rows_copied (r ∷ rs) plan i whole room fits =
      ap (λ (p : List ℕ). rows_put p (i + 1) rs) (row_copied plan i r whole (omega arith) fits.0)
      ∙ rows_copied rs (row_stored plan i r) (i + 1) (row_length_lem plan i r ∙ whole) (omega arith) fits.1
