-- `layout::image::Image::read` meets its contract. Assumes nothing.
use mathlib.Core.Path.{sym}
use Rattle.layout.proofs.ContentsLaws.{contents_good}
use Rattle.layout.proofs.image.Image.read.Goals as goal

pub invariant_of-result : goal.invariant_of-result
invariant_of-result c = record { laid = (contents_good _ _ (sym c.in_ok-shape.ensures)).laid }
