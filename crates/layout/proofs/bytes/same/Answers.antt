-- `layout::bytes::same` meets its contract. Assumes nothing.
use Rattle.std.proofs.Common.{◌∙◌}
use Rattle.seq.proofs.SliceLaws.{equal_pointwise}
use Rattle.layout.proofs.bytes.same.Goals as goal

pub returns : goal.returns
returns c = c.eq.ensures ∙ equal_pointwise _ _
