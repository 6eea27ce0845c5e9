-- `layout::text::Text::path` meets its contract. Assumes nothing.
use mathlib.Core.Path.{◌∙◌, ap}
use Rattle.seq.specs.Bytes.{part}
use Rattle.seq.proofs.BytesLaws.{part_range}
use Rattle.layout.proofs.text.Text.path.Goals as goal

pub returns : goal.returns
returns c = part_range _ 1 _ ∙ ap (λ n. part c.args.self.now.bytes.now 1 n) c.length-n.ensures.0
