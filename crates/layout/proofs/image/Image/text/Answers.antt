-- `layout::image::Image::text` meets its contract. Assumes nothing.
use mathlib.Core.Path.{refl}
use lib.Dec.{lit<}
use Rattle.layout.proofs.RecordLaws.{reads_record}
use Rattle.layout.proofs.image.Image.text.Goals as goal

pub returns : goal.returns
returns c =
    reads_record c.args.self.now.shape c.args.self.now.bytes.now 2 c.args.t _ _ c.args.self.now.laid.long (lit< tt) c.requires c.text_place-at.ensures refl
