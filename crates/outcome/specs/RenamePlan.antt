-- A rename's rows as a journaled plan. Assumes nothing.
use Rattle.std.specs.Prelude.{List, [], ◌++◌, ℕ}
use Rattle.layout.specs.declared.Shape.{Shape}
use Rattle.plan.specs.Write.{Write}
use Rattle.recounts.specs.declared.Move.{Move}
use Rattle.results.specs.Results.{results, clear_row, into_rows, replaced_rows, text_rows}
use Rattle.crash_theorem.specs.Plan.{by_row, Plan}
use Rattle.moves.specs.Plan.{journal_row, entry_row}
use Rattle.image_store.proofs.ImageLaws.{images}

module _ (h : Shape) (s : List ℕ) (m : Move) (called : List ℕ) where
  -- the rows by what they do: the journal record is set, the new entry decides, the results follow, the journal record is cleared
  abbrev pub rename_plan : Plan (images h s)
  rename_plan = record {
    before = s;
    set = journal_row h s m called;
    decider = by_row [] (entry_row h s m called);
    rest = results h s m;
    clear = clear_row h;
  }

-- the rows that there are only if the move asks for them
abbrev pub asked : Shape → List ℕ → Move → List Write
asked h s m = into_rows h s m ++ (replaced_rows h s m ++ text_rows h s m)
