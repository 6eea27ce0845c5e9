-- A move whose numbers are those of records of the image. Assumes nothing.
use Rattle.std.specs.Prelude.{◌≢◌, ◌<◌}
use Rattle.layout.specs.declared.Shape.{Shape}
use Rattle.layout.specs.Limits.{absent}
use Rattle.recounts.specs.declared.Move.{Move}

-- The numbers of a move are those of records of the image.
pub record InImage (h : Shape) (m : Move) : Type 0 where
  pub old : m.old < h.entries
  pub new : m.new < h.entries
  pub moved : m.moved < h.inodes
  pub from : m.from < h.inodes
  pub into : m.into < h.inodes
  pub replaced : m.replaced ≢ absent → m.replaced < h.inodes
  pub text : m.text ≢ absent → m.text < h.texts
