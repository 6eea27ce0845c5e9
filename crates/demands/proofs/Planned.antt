-- A rename, or an exchange, that was planned, as the crash theorem sees it. Assumes nothing.
use Rattle.std.specs.Prelude.{◌≡◌, List, ℕ, ◌≤◌, ◌<◌, length}
use Rattle.std.proofs.Math.Path.{sym, ap}
use Rattle.std.proofs.Common.{subst}
use Rattle.seq.specs.Number.{span}
use Rattle.layout.specs.declared.Shape.{Shape}
use Rattle.layout.specs.Contents.{shape_of}
use Rattle.paths.specs.declared.request.Request.{Request}
use Rattle.refusals.specs.Answered.{Answer}
use Rattle.refusals.specs.Answered.{Planned, Exchanged}
use Rattle.plan.specs.Form.{plan_bytes}
use Rattle.recounts.specs.declared.Move.{Move}
use Rattle.crash_theorem.specs.Events.{EventOf}
use Rattle.exchanges.specs.Exchange.{exchange_planned}
use Rattle.moves.specs.Plan.{planned}
use Rattle.rename.specs.Job.{answer, move, exchange, called, plan_by, plan_after}
use Rattle.image_store.proofs.JobLaws.{jobs}
use Rattle.outcome.specs.Outcome.{finished}
use Rattle.outcome.specs.RenamePlan.{rename_plan}
use Rattle.outcome.specs.Called.{Called}
use Rattle.exchange_outcome.specs.Outcome.{exchanged}
use Rattle.exchange_outcome.specs.ExchangePlan.{exchange_plan}
use Rattle.exchange_outcome.specs.Paired.{Paired}
use Rattle.rename_survives.specs.PlanSurvives.{PlanSurvives}
use Rattle.rename_survives.proofs.Safe.{rename_lasts}
use Rattle.exchange_survives.proofs.Safe.{exchange_lasts}
use Rattle.demands.specs.Demand2.{the_plan}
use Rattle.demands.proofs.Called.{planned_long, planned_called}
use Rattle.demands.proofs.Exchanges.{exchange_long, exchange_paired}

module _ (s plan : List ℕ) (q : Request) (old new : List ℕ) (e : answer s plan q old new ≡ Planned) (time : q.now < span 8) where
  abbrev h : Shape
  h = shape_of s

  abbrev m : Move
  m = move s plan q old new

  abbrev name : List ℕ
  name = called s plan q old new

  abbrev pub planned_move : Called h s m name
  planned_move = planned_called s plan q old new e time

  abbrev pub planned_room : plan_bytes ≤ length plan
  planned_room = planned_long s plan q old new e

  -- the plan's bytes
  pub planned_bytes : the_plan s plan q old new ≡ planned h s m name plan
  unfolding plan_after
  planned_bytes = ap (λ (a : Answer). plan_by s plan q old new a) e

  -- it survives, by the crash theorem
  pub planned_survives : (es : List (EventOf (jobs h s))) → PlanSurvives h s (rename_plan h s m name) plan (the_plan s plan q old new) (finished h s m name) es
  planned_survives es =
      subst (λ (b : List ℕ). PlanSurvives h s (rename_plan h s m name) plan b (finished h s m name) es) (sym planned_bytes)
      (rename_lasts planned_move plan planned_room es)

module _ (s plan : List ℕ) (q : Request) (old new : List ℕ) (e : answer s plan q old new ≡ Exchanged) (time : q.now < span 8) where
  abbrev n : Move
  n = exchange s plan q old new

  abbrev pub exchange_move : Paired (shape_of s) s n
  exchange_move = exchange_paired s plan q old new e time

  abbrev pub exchange_room : plan_bytes ≤ length plan
  exchange_room = exchange_long s plan q old new e

  -- the plan's bytes
  pub exchange_bytes : exchange_planned (shape_of s) s n plan ≡ the_plan s plan q old new
  unfolding plan_after
  exchange_bytes = sym (ap (λ (a : Answer). plan_by s plan q old new a) e)

  pub exchange_outlasts : (es : List (EventOf (jobs (shape_of s) s)))
      → PlanSurvives (shape_of s) s (exchange_plan (shape_of s) s n) plan (the_plan s plan q old new) (exchanged (shape_of s) s n) es
  exchange_outlasts es =
      subst (λ (b : List ℕ). PlanSurvives (shape_of s) s (exchange_plan (shape_of s) s n) plan b (exchanged (shape_of s) s n) es) exchange_bytes
      (exchange_lasts exchange_move plan exchange_room es)
