-- The job rename, and with it the exchange, as definitions: its number, its rows, both walk counts, and the whole plan buffer after it, for any bytes (rules 63 and 78). A reader has to
-- believe this file. Assumes nothing.
use Rattle.std.specs.Prelude.{List, ℕ, length}
use Rattle.layout.specs.Contents.{shape_of}
use Rattle.paths.specs.declared.request.Request.{Request}
use Rattle.refusals.specs.Answered.{Answer}
use Rattle.refusals.specs.Answered.{Refused, Same, Planned, Exchanged}
use Rattle.refusals.specs.declared.case.Case.{Case}
use Rattle.refusals.specs.Rules.{number_of, decide}
use Rattle.plan.specs.Form.{cleared}
use Rattle.recounts.specs.declared.Move.{Move}
use Rattle.exchanges.specs.Exchange.{exchange_rows, exchange_planned}
use Rattle.moves.specs.Plan.{move_of, exchange_of, rename_rows, planned}
use Rattle.rename.specs.Renamed.{Renamed}
use Rattle.rename.specs.Order.{view, walks, case_of, name_of, early, order}

module _ (s plan : List ℕ) (q : Request) (old new : List ℕ) where
  -- the first of the order that holds
  abbrev pub answer : Answer
  answer = decide (order s plan q old new)

  -- the case, its move, the name that was missing, and its exchange
  abbrev pub case : Case
  case = case_of (view s plan q old new) q (walks s plan q old new)

  abbrev pub move : Move
  move = move_of (view s plan q old new) case q.now

  abbrev pub exchange : Move
  exchange = exchange_of case q.now

  abbrev pub called : List ℕ
  called = name_of (walks s plan q old new).new.found

  -- the rows of each answer, and the plan buffer: a refusal leaves it as it was, two names of one file give a plan of no rows
  abbrev pub rows_by : Answer → ℕ
  rows_by (Refused n) = 0
  rows_by Same = 0
  rows_by Planned = length (rename_rows (shape_of s) s move called)
  rows_by Exchanged = length (exchange_rows (shape_of s) s exchange)

  abbrev pub plan_by : Answer → List ℕ
  plan_by (Refused n) = plan
  plan_by Same = cleared plan
  plan_by Planned = planned (shape_of s) s move called plan
  plan_by Exchanged = exchange_planned (shape_of s) s exchange plan

  -- a count, 0 where no walk began
  abbrev pub count_by : Answer → ℕ → ℕ
  count_by (Refused n) steps = 0
  count_by Same steps = 0
  count_by Planned steps = steps
  count_by Exchanged steps = steps

  unfoldable pub renamed : Renamed
  renamed = record {
    number = number_of answer;
    rows = rows_by answer;
    old = count_by (decide (early s plan q old new)) (walks s plan q old new).old.steps;
    new = count_by (decide (early s plan q old new)) (walks s plan q old new).new.steps;
  }

  unfoldable pub plan_after : List ℕ
  plan_after = plan_by answer
