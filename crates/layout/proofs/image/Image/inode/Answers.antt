-- `layout::image::Image::inode` meets its contract. Assumes nothing.
use mathlib.Core.Path.{refl}
use lib.Dec.{lit<}
use Rattle.layout.proofs.RecordLaws.{reads_record}
use Rattle.layout.proofs.image.Image.inode.Goals as goal

pub returns : goal.returns
returns c =
    reads_record c.args.self.now.shape c.args.self.now.bytes.now 0 c.args.i _ _ c.args.self.now.laid.long (lit< tt) c.requires c.inode_place-at.ensures refl
