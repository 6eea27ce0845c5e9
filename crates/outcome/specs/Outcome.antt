-- The finished image of a rename, by its records (rule 93). A reader has to believe this file. Assumes nothing.
use Rattle.std.specs.Prelude.{List, ◌∷◌, ℕ}
use Rattle.layout.specs.declared.Shape.{Shape}
use Rattle.plan.specs.Write.{store_all}
use Rattle.recounts.specs.declared.Move.{Move}
use Rattle.results.specs.Results.{results}
use Rattle.moves.specs.Plan.{entry_row}

module _ (h : Shape) (s : List ℕ) (m : Move) (called : List ℕ) where
  -- The finished image: the one before with the new entry and the results (which clear the old entry), all else unchanged.
  unfoldable pub finished : List ℕ
  finished = store_all h s (entry_row h s m called ∷ results h s m)
