-- Apply as the writer of an image: a row is a plan's bytes and a number. Assumes nothing.
use Rattle.std.specs.Prelude.{◌≤◌, length}
use Rattle.layout.specs.declared.Shape.{Shape}
use Rattle.plan.specs.Form.{Row, plan_bytes, row_at}
use Rattle.plan.specs.Jobs.{Job}
use Rattle.plan.specs.FitFacts.{Applicable}
use Rattle.plan.specs.Write.{Write}
use Rattle.image_store.specs.Covered.{key_at}

-- what a row of a plan writes, on images of shape h
abbrev pub write_of : Shape → Row → Write
write_of h r = record { group = r.group; key = key_at h r.offset r.bytes; body = r.body }

abbrev pub write : Shape → Job → Write
write h j = write_of h (row_at j.plan j.number)

-- Apply takes the row, on every image of shape h.
pub record Takes (h : Shape) (j : Job) : Type 0 where
  pub long : plan_bytes ≤ length j.plan
  pub row : Applicable h j.plan j.number
