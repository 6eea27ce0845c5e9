-- A planned operation survives: the claim whole. Assumes nothing.
use Rattle.std.specs.Prelude.{◌≡◌, Bool, true, false, List, ℕ, ◌≤◌, length}
use Rattle.std.proofs.Common.{ap, ◌∙◌}
use Rattle.layout.specs.declared.Shape.{Shape}
use Rattle.consistency.specs.Consistent.{consistent}
use Rattle.consistency.proofs.ConsistentLaws.{consistent_checked}
use Rattle.plan.specs.Form.{plan_rows, plan_bytes}
use Rattle.plan.specs.Jobs.{jobs_in}
use Rattle.crash_theorem.specs.Change.{goal}
use Rattle.crash_theorem.specs.Events.{EventOf, decided}
use Rattle.crash_theorem.specs.Plan.{Plan, after_of, WellFormed, Recovers}
use Rattle.recover.specs.Recover.{recover}
use Rattle.image_store.proofs.ImageLaws.{images}
use Rattle.image_store.proofs.JobLaws.{jobs}
use Rattle.image_store.proofs.Operation.{rows_in}
use Rattle.image_store.proofs.Safe.{planned_zero}
use Rattle.image_store.specs.JobRows.{plan_of}
use Rattle.rename_survives.specs.Run.{recovery_job}
use Rattle.rename_survives.specs.PlanSurvives.{plan_jobs, plan_state, PlanSurvives}
use Rattle.rename_survives.proofs.PlanSurvivesProof.{recovery_answers, plan_first, plan_safe, plan_recovers}

module _ {h : Shape} {s : List ℕ} {p : Plan (images h s)} (𝓦 : WellFormed (images h s) p) (ρ : Recovers (images h s) p (recover h))
    (few : length (rows_in h s p) ≤ plan_rows) (buffer : List ℕ) (long : plan_bytes ≤ length buffer) where
  module _ {t : List ℕ} (is : after_of (images h s) p ≡ t) (before : consistent p.before ≡ true) (after : consistent t ≡ true) where
    goal_consistent : (d : Bool) → consistent (goal (plan_jobs h s p buffer) d) ≡ true
    goal_consistent false = before
    goal_consistent true = ap consistent is ∙ after

    -- The claim.
    pub plan_survives : (bytes : List ℕ) → plan_of h buffer (rows_in h s p) ≡ bytes → (es : List (EventOf (jobs h s))) → PlanSurvives h s p buffer bytes t es
    plan_survives bytes e es =
        let safe = plan_safe 𝓦 ρ few buffer long es in
        let 𝓙 = plan_jobs h s p buffer in
        record {
          first = plan_first 𝓦 ρ few buffer long ∙ ap jobs_in e;
          recovers = plan_recovers 𝓦 ρ few buffer long es;
          can_finish = safe.can_finish;
          applies = planned_zero h s p 𝓦 buffer long few (recover h) ρ recovery_job (recovery_answers h s) es;
          turn = safe.progress;
          undone = λ d z. safe.outcome d ∙ ap (goal 𝓙) z;
          done = λ d z. safe.outcome d ∙ ap (goal 𝓙) z ∙ is;
          checked = λ d. consistent_checked _ (ap consistent (safe.outcome d) ∙ goal_consistent (decided 𝓙 (plan_state h s p buffer es)));
          decision = safe.decision;
        }
