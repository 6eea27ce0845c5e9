-- The inodes of a case lie in their section; the replaced one may be absent. Assumes nothing.
use Rattle.std.specs.Prelude.{◌≢◌, ◌<◌}
use Rattle.layout.specs.declared.Shape.{Shape}
use Rattle.layout.specs.Limits.{absent}
use Rattle.refusals.specs.declared.case.Case.{Case}

pub record Within (h : Shape) (c : Case) : Type 0 where
  pub moved : c.moved < h.inodes
  pub from : c.from < h.inodes
  pub into : c.into < h.inodes
  pub replaced : c.replaced ≢ absent → c.replaced < h.inodes
