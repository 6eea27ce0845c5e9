-- `layout::contents::shape_of` meets its contract. Assumes nothing.
use Rattle.layout.proofs.ContentsLaws.{shape_is}
use Rattle.layout.proofs.contents.shape_of.Goals as goal

pub returns : goal.returns
returns c = (
  shape_is _ _ _ _ _ _ c.get16.ensures.0 c.get16-2.ensures.0 c.get16-3.ensures.0 c.get16-4.ensures.0 c.width_of.ensures.0,
  record {
    inodes = c.get16.ensures.1;
    entries = c.get16-2.ensures.1;
    texts = c.get16-3.ensures.1;
    handles = c.get16-4.ensures.1;
    width = c.width_of.ensures.1;
  },
)
