-- `layout::image::Image::handle` meets its contract. Assumes nothing.
use mathlib.Core.Path.{refl}
use lib.Dec.{lit<}
use Rattle.layout.proofs.RecordLaws.{reads_record}
use Rattle.layout.proofs.image.Image.handle.Goals as goal

pub returns : goal.returns
returns c =
    reads_record c.args.self.now.shape c.args.self.now.bytes.now 3 c.args.n _ _ c.args.self.now.laid.long (lit< tt) c.requires c.handle_place-at.ensures refl
