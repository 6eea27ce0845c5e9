-- The parts of the job's answer are small: no more rows than a plan holds, and no walk of more than 5,248 component checks (rule 61). Assumes nothing.
use Rattle.std.proofs.Common.{sym, subst, zero-le, arith, length-append}
use Rattle.std.specs.Prelude.{List, [], ◌∷◌, ℕ, ◌≤◌, eqb, length}
use Rattle.seq.specs.Truth.{by_test}
use Rattle.layout.specs.declared.Shape.{Shape}
use Rattle.layout.specs.Limits.{step_limit}
use Rattle.layout.specs.Contents.{shape_of}
use Rattle.layout.specs.View.{View}
use Rattle.paths.specs.declared.request.Request.{Request}
use Rattle.component.specs.Step.{End}
use Rattle.walk.proofs.BoundStart.{walk_bound}
use Rattle.walk.specs.Both.{old_final, new_final, old_walk, walks_of}
use Rattle.refusals.specs.Answered.{Answer}
use Rattle.refusals.specs.Answered.{Refused, Same, Planned, Exchanged}
use Rattle.refusals.specs.Rules.{decide}
use Rattle.plan.specs.Form.{plan_rows}
use Rattle.recounts.specs.declared.Move.{Move}
use Rattle.results.specs.Results.{results, clear_row}
use Rattle.results.proofs.ResultRows.{results_le}
use Rattle.exchanges.specs.Exchange.{exchange_results, exchange_rows}
use Rattle.exchanges.proofs.ExchangeRows.{exchange_le}
use Rattle.moves.specs.Plan.{rename_rows}
use Rattle.rename.specs.Renamed.{Renamed}
use Rattle.rename.specs.Order.{view, early}
use Rattle.rename.specs.Job.{answer, move, exchange, called, rows_by, count_by, renamed}
use Rattle.rename.specs.Answers.{RenameAnswers, Small}

rows_le : (h : Shape) (s : List ℕ) (m : Move) (name : List ℕ) → length (rename_rows h s m name) ≤ plan_rows
unfolding rename_rows
rows_le h s m name = omega (arith, results_le h s m, length-append (results h s m) (clear_row h ∷ []))

exchanged_le : (h : Shape) (s : List ℕ) (m : Move) → length (exchange_rows h s m) ≤ plan_rows
unfolding exchange_rows
exchanged_le h s m = omega (arith, exchange_le h s m, length-append (exchange_results h s m) (clear_row h ∷ []))

old_bound : (v : View) (q : Request) (old new : List ℕ) → (walks_of v q old new).old.steps ≤ step_limit
unfolding walks_of
old_bound v q old new = walk_bound v q.who old_final q.current q.starts.old old

new_bound : (v : View) (q : Request) (old new : List ℕ) → (walks_of v q old new).new.steps ≤ step_limit
unfolding walks_of
new_bound v q old new =
    by_test (λ (e : End). e.steps ≤ step_limit) (eqb (old_walk v q old).number 0) _ _
    (λ z. walk_bound v q.who new_final q.current q.starts.new new) (λ z. zero-le)

module _ (s plan : List ℕ) (q : Request) (old new : List ℕ) where
  answered_rows : (a : Answer) → rows_by s plan q old new a ≤ plan_rows
  answered_rows (Refused n) = zero-le
  answered_rows Same = zero-le
  answered_rows Planned = rows_le (shape_of s) s (move s plan q old new) (called s plan q old new)
  answered_rows Exchanged = exchanged_le (shape_of s) s (exchange s plan q old new)

  counted : (a : Answer) (n : ℕ) → n ≤ step_limit → count_by s plan q old new a n ≤ step_limit
  counted (Refused k) n l = zero-le
  counted Same n l = zero-le
  counted Planned n l = l
  counted Exchanged n l = l

  pub renamed_small : Small (renamed s plan q old new)
  unfolding renamed
  renamed_small = record {
    rows = answered_rows (answer s plan q old new);
    old = counted (decide (early s plan q old new)) _ (old_bound (view s plan q old new) q old new);
    new = counted (decide (early s plan q old new)) _ (new_bound (view s plan q old new) q old new);
  }

pub answers_small : {s plan : List ℕ} {q : Request} {old new : List ℕ} {r : Renamed} {after : List ℕ} → RenameAnswers s plan q old new r after → Small r
answers_small {s} {plan} {q} {old} {new} a = subst Small (sym a.is) (renamed_small s plan q old new)
