-- `layout::number::bytes` meets its contract. Assumes nothing.
use Rattle.std.proofs.Common.{◌∙◌}
use Rattle.seq.proofs.BytesLaws.{part_range}
use Rattle.layout.proofs.number.bytes.Goals as goal

pub returns : goal.returns
returns g c = c.copy_from_slice.ensures.after ∙ part_range _ _ _
