-- One write of an operation, said by its record, the image with it stored, and the plan's row for it (rule 84). A reader has to believe this file. Assumes nothing.
use Rattle.std.specs.Prelude.{List, [], ◌∷◌, map, ℕ}
use Rattle.layout.specs.declared.Shape.{Shape}
use Rattle.layout.specs.Place.{Key}
use Rattle.layout.specs.Record.{store}
use Rattle.plan.specs.Form.{Row}
use Rattle.plan.specs.Fit.{row_for}

-- Its ordering group, the record that it replaces, and the record's new bytes.
pub record Write : Type 0 where
  pub group : ℕ
  pub key : Key
  pub body : List ℕ

-- the records that a row may replace
abbrev pub inode_key : ℕ → Key
inode_key i = record { section = 0; index = i }

abbrev pub entry_key : ℕ → Key
entry_key j = record { section = 1; index = j }

abbrev pub text_key : ℕ → Key
text_key t = record { section = 2; index = t }

abbrev pub journal_key : Key
journal_key = record { section = 4; index = 0 }

-- the image with each write's bytes in place of its record, one after another
abbrev pub store_all : Shape → List ℕ → List Write → List ℕ
store_all h s [] = s
store_all h s (w ∷ ws) = store_all h (store h s w.key w.body) ws

-- writes as rows of a plan, for an image of shape h
module _ (h : Shape) where
  abbrev pub row_from : Write → Row
  row_from w = row_for h w.group w.key w.body

  abbrev pub rows_from : List Write → List Row
  rows_from ws = map row_from ws
