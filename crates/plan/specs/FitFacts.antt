-- What it means that a row covers a record, can be applied, or writes one, as facts. Assumes nothing.
use Rattle.std.specs.Prelude.{◌≡◌, true, List, ℕ, ◌≤◌, ◌<◌, length}
use Rattle.layout.specs.declared.Shape.{Shape}
use Rattle.layout.specs.Place.{Key, record_bytes, place}
use Rattle.layout.specs.Facts.{Valid}
use Rattle.plan.specs.Form.{plan_rows, body_at, row_group, row_blank, row_length, row_offset, row_position, last_group}
use Rattle.plan.specs.Fit.{coverable}

-- The record that n bytes from at on are.
pub record Covered (h : Shape) (at n : ℕ) : Type 0 where
  pub key : Key
  pub valid : Valid h key
  pub allowed : coverable key.section ≡ true
  pub begins : at ≡ place h key.section key.index
  pub whole : n ≡ record_bytes h key.section

-- What holds of a row that can be applied.
pub record Applicable (h : Shape) (plan : List ℕ) (i : ℕ) : Type 0 where
  pub below : i < plan_rows
  pub blank : row_blank plan i ≡ 0
  pub position : row_position plan i ≡ body_at i
  pub first : 1 ≤ row_group plan i
  pub last : row_group plan i ≤ last_group
  pub covered : Covered h (row_offset plan i) (row_length plan i)

-- What an operation owes for each of its rows (rule 84).
pub record Writes (h : Shape) (group : ℕ) (k : Key) (body : List ℕ) : Type 0 where
  pub first : 1 ≤ group
  pub last : group ≤ last_group
  pub valid : Valid h k
  pub allowed : coverable k.section ≡ true
  pub whole : length body ≡ record_bytes h k.section
