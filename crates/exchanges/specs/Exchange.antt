-- What an exchange leaves in each record that it touches, in bytes, and its rows: one definition for the planner and for recovery, which write the same on
-- every image that a crash can leave (rules 85a, 86a, 87a, 89a and 90a). A reader has to believe this file. Assumes nothing.
-- An exchange is a move whose replaced inode goes the other way: the papers' S is `moved`, and T is `replaced`.
use Rattle.std.specs.Prelude.{Bool, ◌&&◌, not, List, [], ◌∷◌, ◌++◌, ℕ, ◌+◌, eqb}
use Rattle.seq.specs.Search.{count}
use Rattle.layout.specs.declared.Shape.{Shape}
use Rattle.layout.specs.View.{View, view_of, inode_at, entry_at, is_directory}
use Rattle.encode.specs.Entry.{retargeted}
use Rattle.encode.specs.Journal.{exchange_kind}
use Rattle.tree.specs.Tree.{holds_directory}
use Rattle.plan.specs.Form.{entry_group, rows_put, cleared}
use Rattle.plan.specs.Write.{Write, inode_key, entry_key, rows_from}
use Rattle.recounts.specs.declared.Move.{Move}
use Rattle.recounts.specs.Recount.{edited}
use Rattle.results.specs.Results.{holder_bytes, result_row, when, moved_row, clear_row}
use Rattle.results.specs.Start.{start_row}

-- the same exchange, as the replaced inode sees it
abbrev pub back : Move → Move
back m = record { old = m.new; new = m.old; moved = m.replaced; from = m.into; into = m.from; replaced = m.moved; text = m.text; now = m.now }

module _ (v : View) (m : Move) where
  -- the entry in slot j, as exchanged, lies in directory d and targets a directory
  abbrev pub holds_exchanged : ℕ → ℕ → Bool
  holds_exchanged d j =
      edited m j (eqb m.from d && is_directory v m.replaced) (eqb m.into d && is_directory v m.moved) (holds_directory v d j)

  -- rule 90a: how many child directories directory d has then
  unfoldable pub children_exchanged : ℕ → ℕ
  children_exchanged d = count (holds_exchanged d) v.entries

module _ (h : Shape) (s : List ℕ) where
  -- rule 86a: the slot that an inode goes to keeps parent and name, and targets it
  abbrev pub slot_row : Move → Write
  slot_row m = record { group = entry_group; key = entry_key m.new; body = retargeted m.moved (entry_at h s m.new) }

  -- rule 90a: a parent gets its link count and both times
  abbrev pub parent_after : Move → ℕ → List ℕ
  parent_after m i = holder_bytes (2 + children_exchanged (view_of h s) m i) m.now (inode_at h s i)

  abbrev pub parent_row : Move → ℕ → Write
  parent_row m i = result_row (inode_key i) (parent_after m i)

  -- rule 85a: the old entry and the new one
  abbrev pub slot_rows : Move → List Write
  slot_rows m = slot_row (back m) ∷ slot_row m ∷ []

  -- rule 85a: the old parent, and the new one if it is another directory
  abbrev pub parent_rows : Move → List Write
  parent_rows m = parent_row m m.from ∷ when (not (eqb m.into m.from)) (parent_row m m.into)

  -- rule 85a: the moved inode, the parents, the replaced inode; rule 89a: what becomes of either inode is what a rename makes of the one that it moves
  abbrev pub inode_rows : Move → List Write
  inode_rows m = moved_row h s m ∷ parent_rows m ++ moved_row h s (back m) ∷ []

  -- rule 85a: the rows in the order of the plan
  unfoldable pub exchange_results : Move → List Write
  exchange_results m = slot_rows m ++ inode_rows m

  -- rule 85a: all rows of the plan; rule 87a: the first, the journal record of a kind of its own, decides
  unfoldable pub exchange_rows : Move → List Write
  exchange_rows m = start_row exchange_kind m ∷ exchange_results m ++ clear_row h ∷ []

  -- the plan's bytes: 648 of them, and those past its end as they were
  unfoldable pub exchange_planned : Move → List ℕ → List ℕ
  exchange_planned m plan = rows_put (cleared plan) 0 (rows_from h (exchange_rows m))
