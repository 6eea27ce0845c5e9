-- The new slot of an exchange in an image on its way: it keeps parent and name. Assumes nothing.
use Rattle.std.specs.Prelude.{◌≡◌, List, ℕ}
use Rattle.layout.specs.declared.Shape.{Shape}
use Rattle.layout.specs.View.{view_of}
use Rattle.edits.specs.Kinds.{EntryUsed}
use Rattle.recounts.specs.declared.Move.{Move}

-- In the image x it is in use, lies where it lay and has the name that it had in s, and targets inode i.
pub record SlotNames (h : Shape) (s x : List ℕ) (m : Move) (i : ℕ) : Type 0 where
  pub used : EntryUsed (view_of h x) m.new
  pub parent : (view_of h x).parent m.new ≡ m.into
  pub name : (view_of h x).name m.new ≡ (view_of h s).name m.new
  pub target : (view_of h x).target m.new ≡ i
