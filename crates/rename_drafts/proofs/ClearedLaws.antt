-- Rows from none on that leave a place for the cleared journal record behind them. Assumes nothing.
use Rattle.std.specs.Prelude.{List, ◌≤◌, ◌<◌, length}
use Rattle.std.proofs.Common.{arith}
use Rattle.layout.specs.declared.Shape.{Shape}
use Rattle.plan.specs.declared.rows.Rows.{Rows}
use Rattle.plan.specs.Form.{plan_rows}
use Rattle.plan.specs.Write.{Write}
use Rattle.plan.specs.Added.{no_rows, Added}

pub rows_below : (h : Shape) (ws : List Write) {q : Rows} → length ws ≤ 6 → Added h no_rows ws q → q.count < plan_rows
rows_below h ws few a = omega (arith, a.filled.next)
