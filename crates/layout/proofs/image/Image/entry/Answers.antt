-- `layout::image::Image::entry` meets its contract. Assumes nothing.
use mathlib.Core.Path.{refl}
use lib.Dec.{lit<}
use Rattle.layout.proofs.RecordLaws.{reads_record}
use Rattle.layout.proofs.image.Image.entry.Goals as goal

pub returns : goal.returns
returns c =
    reads_record c.args.self.now.shape c.args.self.now.bytes.now 1 c.args.j _ _ c.args.self.now.laid.long (lit< tt) c.requires c.entry_place-at.ensures refl
