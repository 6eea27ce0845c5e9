-- One row applied: when, to which record, and the image after it. Assumes nothing.
use Rattle.std.specs.Prelude.{◌≡◌, true, cond, List, ℕ, ◌≤◌, length}
use Rattle.layout.specs.declared.Shape.{Shape}
use Rattle.layout.specs.Place.{Key}
use Rattle.layout.specs.Contents.{layout_good, shape_of}
use Rattle.plan.specs.Form.{plan_bytes, row_at}
use Rattle.plan.specs.Fit.{applicable}
use Rattle.plan.specs.FitFacts.{Applicable}
use Rattle.apply.specs.Apply.{applied}

-- What it takes for the job to answer 0.
pub record Applies (image plan : List ℕ) (i : ℕ) : Type 0 where
  pub long : plan_bytes ≤ length plan
  pub layout : layout_good image ≡ true
  pub row : Applicable (shape_of image) plan i

module _ (image plan : List ℕ) (i : ℕ) (a : Applies image plan i) where
  -- the record, and its new bytes
  abbrev pub applied_key : Key
  applied_key = a.row.covered.key

  abbrev pub applied_body : List ℕ
  applied_body = (row_at plan i).body

-- the image where the plan is long enough and the layout good
abbrev pub row_image : Shape → List ℕ → List ℕ → ℕ → List ℕ
row_image h image plan i = cond (applicable h plan i) (applied image (row_at plan i)) image
