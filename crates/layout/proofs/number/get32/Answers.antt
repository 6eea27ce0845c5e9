-- `layout::number::get32` meets its contract. Assumes nothing.
use Rattle.std.proofs.Common.{◌∙◌}
use Rattle.seq.proofs.SliceLaws.{read_four}
use Rattle.layout.proofs.number.get32.Goals as goal

pub returns : goal.returns
returns c = rw c.bytes.ensures at c.from_le_bytes.ensures ∙ read_four _ _
