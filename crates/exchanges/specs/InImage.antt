-- An exchange whose numbers are those of records of the image. Assumes nothing.
use Rattle.std.specs.Prelude.{◌<◌}
use Rattle.layout.specs.declared.Shape.{Shape}
use Rattle.recounts.specs.declared.Move.{Move}
use Rattle.recounts.specs.RecountLaws.{Two}

-- The slots are two of the image, and each number is that of an inode.
pub record BothInImage (h : Shape) (m : Move) : Type 0 where
  pub slots : Two m h.entries
  pub moved : m.moved < h.inodes
  pub from : m.from < h.inodes
  pub into : m.into < h.inodes
  pub replaced : m.replaced < h.inodes
