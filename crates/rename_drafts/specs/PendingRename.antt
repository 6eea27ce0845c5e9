-- What the journal record of a rename leads to: when it fits, and the rows that finish the rename or take it back (rules 105 to 108). A reader has to believe
-- this file. Assumes nothing.
use Rattle.std.specs.Prelude.{Bool, ◌&&◌, not, cond, List, [], ◌∷◌, ◌++◌, ℕ, eqb, ltb}
use Rattle.std.proofs.Math.Option.{Option, none, some}
use Rattle.seq.specs.Search.{implies}
use Rattle.layout.specs.declared.Shape.{Shape}
use Rattle.layout.specs.View.{View, view_of, entry_used, is_directory}
use Rattle.encode.specs.declared.journal.Journal.{Journal}
use Rattle.plan.specs.Write.{Write}
use Rattle.recounts.specs.declared.Move.{Move}
use Rattle.results.specs.Results.{present, results, clear_row}

-- a number below n, or none
abbrev pub below_or_absent : ℕ → ℕ → Bool
below_or_absent i n = implies (present i) (ltb i n)

-- rule 105: the numbers are in range; that of the old parent is asked for by rule 106
abbrev pub numbers_in_range : Shape → Journal → Bool
numbers_in_range h j =
    ltb j.old h.entries && ltb j.new h.entries && ltb j.moved h.inodes && below_or_absent j.replaced h.inodes
    && below_or_absent j.text h.texts

-- rule 106: the slots differ, the moved inode is not the root, and it, the old parent and the replaced inode are different
abbrev pub different : Journal → Bool
different j =
    not (eqb j.old j.new) && not (eqb j.moved 0) && not (eqb j.moved j.parent) && not (eqb j.replaced j.moved)
    && not (eqb j.replaced j.parent)

-- rules 105 and 106: the record of a rename fits the image
unfoldable pub rename_fits : Shape → List ℕ → Journal → Bool
rename_fits h x j = numbers_in_range h j && different j && is_directory (view_of h x) j.parent

-- the move that the record names; the new parent is the one of the entry in the new slot
abbrev pub move_from : View → Journal → Move
move_from v j = record {
  old = j.old;
  new = j.new;
  moved = j.moved;
  from = j.parent;
  into = v.parent j.new;
  replaced = j.replaced;
  text = j.text;
  now = j.time;
}

-- rule 107: the new entry has been applied, so its slot is in use and targets the moved inode
unfoldable pub entry_stands : View → Move → Bool
entry_stands v m = entry_used v m.new && eqb (v.target m.new) m.moved

-- rule 108: the new parent is a directory, and neither moved nor replaced
unfoldable pub into_good : View → Move → Bool
into_good v m = is_directory v m.into && not (eqb m.into m.moved) && not (eqb m.into m.replaced)

module _ (h : Shape) (x : List ℕ) where
  -- rule 107: clearing the journal record takes the rename back
  abbrev pub undoing : List Write
  undoing = clear_row h ∷ []

  -- rule 108: the results, made afresh, and then the cleared journal record finish it
  abbrev pub finishing : Move → List Write
  finishing m = results h x m ++ clear_row h ∷ []

  -- rules 107 and 108: the rows of a move whose record fits
  unfoldable pub move_draft : Move → Option (List Write)
  move_draft m = cond (entry_stands (view_of h x) m) (cond (into_good (view_of h x) m) (some (finishing m)) none) (some undoing)

  -- and of a pending rename
  unfoldable pub rename_draft : Journal → Option (List Write)
  rename_draft j = cond (rename_fits h x j) (move_draft (move_from (view_of h x) j)) none
