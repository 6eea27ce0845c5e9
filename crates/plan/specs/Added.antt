-- A plan while its rows are put, one behind the other, by the ordering group's number. Assumes nothing.
use Rattle.std.specs.Prelude.{◌≡◌, List, ℕ, ◌+◌, ◌≤◌, length, replicate}
use Rattle.layout.specs.declared.Shape.{Shape}
use Rattle.plan.specs.declared.rows.Group.{Group}
use Rattle.plan.specs.declared.rows.Group.TheVariants as group
use Rattle.plan.specs.declared.rows.Rows.{Rows}
use Rattle.plan.specs.Form.{Row, plan_bytes, body_bytes, row_stored, journal_group, entry_group, result_group, clear_group}
use Rattle.plan.specs.Write.{Write, rows_from}
use Rattle.plan.specs.Filled.{Filled}
use Rattle.plan.specs.Stands.{Each}

abbrev pub group_number : Group → ℕ
group_number group.Journal = journal_group
group_number group.Entry = entry_group
group_number group.Results = result_group
group_number group.Clear = clear_group

-- a plan of no rows
abbrev pub no_rows : Rows
no_rows = record { bytes = replicate plan_bytes 0; count = 0 }

-- a body that a row has room for
abbrev pub BodyFits : Row → Type 0
BodyFits r = length r.body ≤ body_bytes

-- The rows q are p and one row behind.
pub record Pushed (p : Rows) (r : Row) (q : Rows) : Type 0 where
  pub bytes : q.bytes ≡ row_stored p.bytes p.count r
  pub count : q.count ≡ p.count + 1
  pub fits : BodyFits r

-- The rows q are p and these writes, for an image of shape h, behind.
pub record Added (h : Shape) (p : Rows) (ws : List Write) (q : Rows) : Type 0 where
  pub filled : Filled h p.bytes p.count ws q.bytes q.count
  pub fits : Each BodyFits (rows_from h ws)
