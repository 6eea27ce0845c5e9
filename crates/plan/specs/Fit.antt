-- Which rows an image can take: their ordering group, and the record that each replaces (rules 84 and 97 to 100). A reader has to believe this file. Assumes nothing.
use Rattle.std.specs.Prelude.{Bool, true, false, ◌&&◌, List, ℕ, zero, suc, eqb, leb, ltb}
use Rattle.seq.specs.Search.{any}
use Rattle.layout.specs.declared.Shape.{Shape}
use Rattle.layout.specs.Place.{Key, record_bytes, records, place}
use Rattle.plan.specs.Form.{Row, plan_rows, body_at, row_of, row_blank, row_position, row_at, last_group}

abbrev pub group_good : ℕ → Bool
group_good g = leb 1 g && leb g last_group

-- rule 100: the sections whose records a row may replace; an open handle is not among them
abbrev pub coverable : ℕ → Bool
coverable zero = true
coverable (suc zero) = true
coverable (suc (suc zero)) = true
coverable (suc (suc (suc zero))) = false
coverable (suc (suc (suc (suc k)))) = true

-- n bytes from at on are record i of section k
abbrev pub covers_record : Shape → ℕ → ℕ → ℕ → ℕ → Bool
covers_record h at n k i = eqb at (place h k i) && eqb n (record_bytes h k)

-- they are some record of section k, and a row may replace those
unfoldable pub covers_section : Shape → ℕ → ℕ → ℕ → Bool
covers_section h at n k = coverable k && any (covers_record h at n k) (records h k)

-- rule 100: they are exactly one record that a row may replace
unfoldable pub covers : Shape → ℕ → ℕ → Bool
covers h at n = any (covers_section h at n) 5

-- rules 98 and 100: an image of shape h can take row r
unfoldable pub is_fitting_row : Shape → Row → Bool
is_fitting_row h r = group_good r.group && covers h r.offset r.bytes

-- rules 97 to 100: the number is a row's, its header is in order, and the image can take it
unfoldable pub applicable : Shape → List ℕ → ℕ → Bool
applicable h plan i = ltb i plan_rows && eqb (row_blank plan i) 0 && eqb (row_position plan i) (body_at i) && is_fitting_row h (row_at plan i)

-- the row that replaces one record, as every operation writes it
abbrev pub row_for : Shape → ℕ → Key → List ℕ → Row
row_for h group k body = row_of group (place h k.section k.index) body
