-- The ways out of applying a row. Assumes nothing.
use Rattle.std.specs.Prelude.{◌≡◌, Bool, List, ℕ, ◌+◌, ◌≤◌, ◌<◌, eqb, length}
use Rattle.std.proofs.Math.Path.{refl}
use Rattle.std.proofs.Math.Bool.{true, false, cond}
use Rattle.std.proofs.Common.{lt-ltb, le-ltb}
use Rattle.seq.specs.Bytes.{put}
use Rattle.layout.specs.declared.Shape.{Shape}
use Rattle.layout.specs.Errno.{short_buffer, inconsistent, bad_row}
use Rattle.layout.specs.Facts.{Laid, Read}
use Rattle.layout.specs.Contents.{layout_good, shape_of}
use Rattle.plan.specs.Form.{plan_rows, plan_bytes, body_bytes, row_length, row_offset, row_at}
use Rattle.plan.specs.Fit.{applicable}
use Rattle.plan.proofs.FitLaws.{applicable_is, applicable_fits}
use Rattle.apply.specs.Apply.{applied, applied_image, apply_number, row_number}
use Rattle.apply.specs.OneRow.{row_image}

-- the ways out of the job
module _ (image plan : List ℕ) (i : ℕ) where
  pub apply_short : length plan < plan_bytes → (apply_number image plan i ≡ short_buffer) × (applied_image image plan i ≡ image)
  unfolding applied_image apply_number
  apply_short short = (rw (lt-ltb _ _ short), rw (lt-ltb _ _ short))

  module _ (long : plan_bytes ≤ length plan) where
    pub apply_bad : layout_good image ≡ false → (apply_number image plan i ≡ inconsistent) × (applied_image image plan i ≡ image)
    unfolding applied_image apply_number
    apply_bad bad = (rw (le-ltb _ _ long, bad), rw (le-ltb _ _ long, bad))

    pub apply_read : (h : Shape) → Read image h → (apply_number image plan i ≡ row_number h plan i) × (applied_image image plan i ≡ row_image h image plan i)
    unfolding applied_image apply_number
    apply_read h r =
        (rw (le-ltb _ _ long, r.good, r.shape), rw (le-ltb _ _ long, r.good, r.shape) (pick (applicable (shape_of image) plan i)))
      where
        pick : (b : Bool) → cond (eqb (cond b 0 bad_row) 0) (applied image (row_at plan i)) image ≡ cond b (applied image (row_at plan i)) image
        pick true = refl
        pick false = refl

-- a row that can be applied is one of the plan's, and its bytes lie in its body and in the image
pub fitting : (h : Shape) (image plan : List ℕ) (i : ℕ) → Laid h image → applicable h plan i ≡ true
    → (i < plan_rows) × (row_length plan i ≤ body_bytes) × (row_offset plan i + row_length plan i ≤ length image)
fitting h image plan i laid passed =
    let good = applicable_is _ _ _ passed in
    let fits = applicable_fits h image plan i laid good in
    (good.below, fits.0, fits.1)

-- a row that can be applied, copied
pub row_copied : (h : Shape) (image plan : List ℕ) (i at : ℕ) (body : List ℕ) → applicable h plan i ≡ true → at ≡ row_offset plan i → body ≡ (row_at plan i).body
    → put image at body ≡ row_image h image plan i
unfolding row_at
row_copied h image plan i at body good a b = rw (good, a, b)
