-- The table of contents as the code reads it: row by row, each compared with its name, its offset and its limits. Assumes nothing.
use Rattle.std.specs.Prelude.{Bool, true, false, ◌&&◌, List, ℕ, ◌+◌, ◌*◌, eqb, leb, length, Option, Some, None}
use Rattle.seq.specs.Search.{all}
use Rattle.seq.specs.Number.{number_at}
use Rattle.layout.specs.declared.Shape.{Shape}
use Rattle.layout.specs.Limits.{contents_bytes}
use Rattle.layout.specs.Place.{base, image_bytes}
use Rattle.layout.specs.Contents.{section_name, fewest, most, name_is, shape_of}

-- form B: a row is a name of four bytes, an offset and a count of records, of two bytes each
unfoldable pub row_is : List ℕ → ℕ → List ℕ → ℕ → ℕ → ℕ → Bool
row_is s at name offset least limit =
    name_is s at name && eqb (number_at 2 s (at + 4)) offset && leb least (number_at 2 s (at + 6)) && leb (number_at 2 s (at + 6)) limit

-- rules 2, 3 and 5 of one section: its row has its name, the offset that the sections before it leave, and a count within its limits
unfoldable pub row_good : List ℕ → Shape → ℕ → Bool
row_good s h k = row_is s (8 * k) (section_name h.width k) (base h k) (fewest k) (most h.width k)

-- all five rows are good, and the image ends with the last section (rule 4)
unfoldable pub rows_good : List ℕ → Shape → Bool
rows_good s h = all (row_good s h) 5 && eqb (length s) (image_bytes h)

-- the table of contents is there, and its rows describe the image
unfoldable pub layout_read : List ℕ → Bool
layout_read s = leb contents_bytes (length s) && rows_good s (shape_of s)

-- what reading the table of contents finds
abbrev pub pick_contents : Bool → Shape → Option Shape
pick_contents true h = Some h
pick_contents false h = None

unfoldable pub contents_of : List ℕ → Option Shape
contents_of s = pick_contents (layout_read s) (shape_of s)
