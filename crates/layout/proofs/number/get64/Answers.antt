-- `layout::number::get64` meets its contract. Assumes nothing.
use Rattle.std.proofs.Common.{◌∙◌}
use Rattle.seq.proofs.SliceLaws.{read_eight}
use Rattle.layout.proofs.number.get64.Goals as goal

pub returns : goal.returns
returns c = rw c.bytes.ensures at c.from_le_bytes.ensures ∙ read_eight _ _
