-- What it means that a row stands in a plan: its fields read back, and its body. Assumes nothing.
use Rattle.std.specs.Prelude.{◌≡◌, List, [], ◌∷◌, ℕ, ◌≤◌, ◌<◌, length, get_or}
use Rattle.seq.specs.Bytes.{part}
use Rattle.seq.specs.Number.{number_at}
use Rattle.plan.specs.Form.{Row, header_bytes, body_bytes, header_at, body_at, row_group, row_blank, row_length, row_offset, row_position, row_at}

-- A row that a plan can hold.
pub record RowFormed (r : Row) : Type 0 where
  pub offset_small : r.offset < 65536
  pub body_fits : r.bytes ≤ body_bytes
  pub whole : length r.body ≡ r.bytes

-- the fields of row i, from the eight bytes of its header
pub record Fields (plan : List ℕ) (i : ℕ) (x : List ℕ) : Type 0 where
  pub group : row_group plan i ≡ get_or x 0 0
  pub blank : row_blank plan i ≡ get_or x 1 0
  pub length : row_length plan i ≡ number_at 2 x 2
  pub offset : row_offset plan i ≡ number_at 2 x 4
  pub position : row_position plan i ≡ number_at 2 x 6

abbrev pub header : List ℕ → ℕ → List ℕ
header plan i = part plan (header_at i) header_bytes

-- Row r stands in place i of the plan, with its header in order.
pub record Stands (plan : List ℕ) (i : ℕ) (r : Row) : Type 0 where
  pub row : row_at plan i ≡ r
  pub blank : row_blank plan i ≡ 0
  pub position : row_position plan i ≡ body_at i

-- every row of a list is such
abbrev pub Each : (Row → Type 0) → List Row → Type 0
Each P [] = Unit
Each P (r ∷ rs) = P r × Each P rs
