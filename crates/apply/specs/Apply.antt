-- The number that applying a row answers, and the image after it (rules 94 to 101). A reader has to believe this file. Assumes nothing.
use Rattle.std.specs.Prelude.{cond, List, ℕ, eqb, ltb, length}
use Rattle.seq.specs.Bytes.{put}
use Rattle.layout.specs.declared.Shape.{Shape}
use Rattle.layout.specs.Errno.{short_buffer, inconsistent, bad_row}
use Rattle.layout.specs.Contents.{layout_good, shape_of}
use Rattle.plan.specs.Form.{Row, plan_bytes, row_at}
use Rattle.plan.specs.Fit.{applicable}

-- rule 97: the number where the plan is long enough and the layout good
abbrev pub row_number : Shape → List ℕ → ℕ → ℕ
row_number h plan i = cond (applicable h plan i) 0 bad_row

-- rules 94 to 97: the first refusal that applies, in this order (applying is the papers' landing)
unfoldable pub apply_number : List ℕ → List ℕ → ℕ → ℕ
apply_number image plan i =
    cond (ltb (length plan) plan_bytes) short_buffer (cond (layout_good image) (row_number (shape_of image) plan i) inconsistent)

-- rule 101: the row's body in its place; every other byte is as before
abbrev pub applied : List ℕ → Row → List ℕ
applied image r = put image r.offset r.body

-- rules 94 and 101: the whole image after the job, as it was where the job refuses
unfoldable pub applied_image : List ℕ → List ℕ → ℕ → List ℕ
applied_image image plan i = cond (eqb (apply_number image plan i) 0) (applied image (row_at plan i)) image
