-- The image with the old entry cleared, and what it means that the new entry stands. Assumes nothing.
use Rattle.std.specs.Prelude.{◌≡◌, List, ℕ}
use Rattle.layout.specs.declared.Shape.{Shape}
use Rattle.layout.specs.Record.{store}
use Rattle.layout.specs.View.{view_of}
use Rattle.edits.specs.Kinds.{EntryUsed}
use Rattle.plan.specs.Write.{entry_key}
use Rattle.recounts.specs.declared.Move.{Move}
use Rattle.results.specs.Results.{free_record}

-- the image with the old entry cleared
abbrev pub old_cleared : Shape → List ℕ → Move → List ℕ
old_cleared h x m = store h x (entry_key m.old) (free_record h 1)

-- The new entry stands in the image.
pub record EntryStands (h : Shape) (x : List ℕ) (m : Move) : Type 0 where
  pub used : EntryUsed (view_of h x) m.new
  pub parent : (view_of h x).parent m.new ≡ m.into
  pub target : (view_of h x).target m.new ≡ m.moved
