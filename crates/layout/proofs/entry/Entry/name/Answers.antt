-- `layout::entry::Entry::name` meets its contract. Assumes nothing.
use mathlib.Core.Path.{◌∙◌, ap}
use Rattle.seq.specs.Bytes.{part}
use Rattle.seq.proofs.BytesLaws.{part_range}
use Rattle.layout.proofs.entry.Entry.name.Goals as goal

pub returns : goal.returns
returns c = part_range _ 8 _ ∙ ap (λ n. part c.args.self.now.bytes.now 8 n) c.name_length-n.ensures.0
