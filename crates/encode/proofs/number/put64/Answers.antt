-- `encode::number::put64` meets its contract. Assumes nothing.
use Rattle.std.proofs.Common.{ap, ◌∙◌}
use Rattle.seq.specs.Bytes.{put}
use Rattle.seq.proofs.SliceLaws.{write_eight}
use Rattle.encode.proofs.number.put64.Goals as goal

pub returns : goal.returns
returns c = c.copy.ensures ∙ ap (put c.args.d.now c.args.at) (c.to_le_bytes.ensures ∙ write_eight c.args.v)
