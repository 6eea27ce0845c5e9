-- The form of a plan (rules 79 to 83): nine rows, each a header and a body, in 648 bytes. A reader has to believe this file. Assumes nothing.
use Rattle.std.specs.Prelude.{Bool, List, [], ◌∷◌, ◌++◌, ℕ, ◌+◌, ◌*◌, length, get_or, replicate}
use Rattle.seq.specs.Search.{first}
use Rattle.seq.specs.Bytes.{part, put, zeros}
use Rattle.seq.specs.Number.{number_at, bytes_of}

-- rule 79: how many rows, and the bytes of a header and of a body
abbrev pub plan_rows : ℕ
plan_rows = 9

abbrev pub header_bytes : ℕ
header_bytes = 8

abbrev pub body_bytes : ℕ
body_bytes = 64

-- the bodies follow the headers, and the plan ends with the last
abbrev pub bodies_at : ℕ
bodies_at = header_bytes * plan_rows

abbrev pub plan_bytes : ℕ
plan_bytes = bodies_at + body_bytes * plan_rows

-- rule 80: where row i's header and body begin
abbrev pub header_at : ℕ → ℕ
header_at i = header_bytes * i

abbrev pub body_at : ℕ → ℕ
body_at i = bodies_at + body_bytes * i

-- rules 84 and 85: the ordering groups of a plan's rows, counted from 1: the journal record set, the deciding entry, the results, the journal record cleared
abbrev pub journal_group : ℕ
journal_group = 1

abbrev pub entry_group : ℕ
entry_group = 2

abbrev pub result_group : ℕ
result_group = 3

abbrev pub clear_group : ℕ
clear_group = 4

abbrev pub last_group : ℕ
last_group = 4

-- A row: its ordering group (the paper's group), where in the image it belongs, how many bytes it replaces there, and those bytes.
pub record Row : Type 0 where
  pub group : ℕ
  pub offset : ℕ
  pub bytes : ℕ
  pub body : List ℕ

-- a row with a body of just the bytes it replaces, as every operation writes it
abbrev pub row_of : ℕ → ℕ → List ℕ → Row
row_of group offset body = record { group = group; offset = offset; bytes = length body; body = body }

-- rule 81: the fields of header i
abbrev pub row_group : List ℕ → ℕ → ℕ
row_group plan i = get_or plan (header_at i) 0

abbrev pub row_blank : List ℕ → ℕ → ℕ
row_blank plan i = get_or plan (header_at i + 1) 0

abbrev pub row_length : List ℕ → ℕ → ℕ
row_length plan i = number_at 2 plan (header_at i + 2)

abbrev pub row_offset : List ℕ → ℕ → ℕ
row_offset plan i = number_at 2 plan (header_at i + 4)

abbrev pub row_position : List ℕ → ℕ → ℕ
row_position plan i = number_at 2 plan (header_at i + 6)

-- row i as it is read: of its body, as many bytes as its header says
unfoldable pub row_at : List ℕ → ℕ → Row
row_at plan i =
    record { group = row_group plan i; offset = row_offset plan i; bytes = row_length plan i; body = part plan (body_at i) (row_length plan i) }

-- the header of row r in place i
unfoldable pub header_of : ℕ → Row → List ℕ
header_of i r = r.group ∷ 0 ∷ (bytes_of 2 r.bytes ++ bytes_of 2 r.offset ++ bytes_of 2 (body_at i))

-- the plan with row r in place i; every other byte is as before
unfoldable pub row_stored : List ℕ → ℕ → Row → List ℕ
row_stored plan i r = put (put plan (header_at i) (header_of i r)) (body_at i) r.body

-- the plan with rows from place i on
unfoldable pub rows_put : List ℕ → ℕ → List Row → List ℕ
rows_put plan i [] = plan
rows_put plan i (r ∷ rs) = rows_put (row_stored plan i r) (i + 1) rs

-- rule 82: a plan of no rows; bytes past the plan stay
unfoldable pub cleared : List ℕ → List ℕ
cleared plan = put plan 0 (replicate plan_bytes 0)

-- rule 83: a header of zeros is no row, and the rows end at the first such
unfoldable pub no_row : List ℕ → ℕ → Bool
no_row plan i = zeros plan (header_at i) header_bytes

unfoldable pub count_of_rows : List ℕ → ℕ
count_of_rows plan = first (no_row plan) plan_rows
