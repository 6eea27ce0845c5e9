-- An operation's rows in a cleared plan. Assumes nothing.
use Rattle.std.specs.Prelude.{List, ℕ}
use Rattle.layout.specs.declared.Shape.{Shape}
use Rattle.plan.specs.Form.{rows_put, cleared}
use Rattle.plan.specs.Write.{Write, rows_from}

module _ (h : Shape) where
  -- the caller's buffer with the plan of these rows
  unfoldable pub plan_of : List ℕ → List Write → List ℕ
  plan_of buffer ws = rows_put (cleared buffer) 0 (rows_from h ws)
