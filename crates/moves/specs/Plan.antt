-- The rows of a rename that is not refused: the journal record, the new entry, the results, the journal record cleared (rules 85 to 87). A reader has to
-- believe this file. Assumes nothing.
use Rattle.std.specs.Prelude.{◌&&◌, cond, List, [], ◌∷◌, ◌++◌, ℕ, eqb}
use Rattle.layout.specs.declared.Shape.{Shape}
use Rattle.layout.specs.Limits.{absent}
use Rattle.layout.specs.View.{View, entry_at, is_symlink}
use Rattle.encode.specs.Entry.{entry_bytes, retargeted}
use Rattle.encode.specs.Journal.{rename_kind}
use Rattle.refusals.specs.declared.case.Case.{Case}
use Rattle.plan.specs.Form.{rows_put, cleared, entry_group}
use Rattle.plan.specs.Write.{Write, entry_key, rows_from}
use Rattle.recounts.specs.declared.Move.{Move}
use Rattle.recounts.specs.Recount.{entries_after}
use Rattle.results.specs.Results.{results, clear_row}
use Rattle.results.specs.Start.{start_row}

-- the move of a case, at a time, with the text that it frees
abbrev pub move_with : Case → ℕ → ℕ → Move
move_with c now text = record {
  old = c.old;
  new = c.new;
  moved = c.moved;
  from = c.from;
  into = c.into;
  replaced = c.replaced;
  text = text;
  now = now;
}

-- a replaced symlink with no entry left frees its text
abbrev pub freed_text : View → Case → ℕ → ℕ
freed_text v c now =
    cond (is_symlink v c.replaced && eqb (entries_after v (move_with c now absent) c.replaced) 0) (v.field c.replaced) absent

unfoldable pub move_of : View → Case → ℕ → Move
move_of v c now = move_with c now (freed_text v c now)

-- the exchange of a case, at a time: it frees no text
abbrev pub exchange_of : Case → ℕ → Move
exchange_of c now = move_with c now absent

-- rule 86, the new entry: the one of the replaced inode with another target, or one that is made, under the name that was missing
abbrev pub new_entry : Shape → List ℕ → Move → List ℕ → List ℕ
new_entry h s m called =
    cond (eqb m.replaced absent) (entry_bytes h.width m.into m.moved called) (retargeted m.moved (entry_at h s m.new))

module _ (h : Shape) (s : List ℕ) (m : Move) (called : List ℕ) where
  -- the journal record is set first
  abbrev pub journal_row : Write
  journal_row = start_row rename_kind m

  -- the deciding row
  abbrev pub entry_row : Write
  entry_row = record { group = entry_group; key = entry_key m.new; body = new_entry h s m called }

  -- rule 85: all rows of the plan, in their order
  unfoldable pub rename_rows : List Write
  rename_rows = journal_row ∷ entry_row ∷ results h s m ++ clear_row h ∷ []

  -- the plan's bytes: 648 of them, and those past its end as they were
  unfoldable pub planned : List ℕ → List ℕ
  planned plan = rows_put (cleared plan) 0 (rows_from h rename_rows)
