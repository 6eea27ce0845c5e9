-- `layout::image::Image::journal` meets its contract. Assumes nothing.
use mathlib.Core.Path.{refl}
use lib.Dec.{lit<}
use Rattle.layout.proofs.RecordLaws.{reads_record}
use Rattle.layout.proofs.image.Image.journal.Goals as goal

pub returns : goal.returns
returns c =
    reads_record c.args.self.now.shape c.args.self.now.bytes.now 4 0 _ _ c.args.self.now.laid.long (lit< tt) (lit< tt) c.journal_place-at.ensures refl
