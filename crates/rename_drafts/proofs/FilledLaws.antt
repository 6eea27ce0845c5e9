-- Rows that leave a place for the cleared journal record behind them, and the plan with that one too. Assumes nothing.
use Rattle.std.specs.Prelude.{◌≡◌, List, [], ◌∷◌, ◌++◌, ℕ, ◌+◌, ◌≤◌, ◌<◌, length}
use Rattle.std.proofs.Common.{arith}
use Rattle.layout.specs.declared.Shape.{Shape}
use Rattle.plan.specs.Form.{plan_rows, row_stored}
use Rattle.plan.specs.Write.{Write, row_from}
use Rattle.plan.specs.Filled.{Filled}
use Rattle.plan.proofs.WriteLaws.{filled_one, filled_join}
use Rattle.results.specs.Results.{clear_row}

module _ (h : Shape) (ws : List Write) (few : length ws ≤ 6) {p q : List ℕ} {n : ℕ} (filled : Filled h p 0 ws q n) where
  pub rows_below : n < plan_rows
  rows_below = omega (arith, filled.next)

  pub cleared_filled : {r : List ℕ} → r ≡ row_stored q n (row_from h (clear_row h)) → Filled h p 0 (ws ++ clear_row h ∷ []) r (n + 1)
  cleared_filled e = filled_join h filled (filled_one h (clear_row h) e)
