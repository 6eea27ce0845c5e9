-- A planned operation and whatever befalls it: what holds after every list of events, in the words of the crash theorem. Assumes nothing.
use Rattle.std.specs.Prelude.{◌≡◌, ◌⊎◌, ◌↔◌, true, false, List, ℕ, T}
use Rattle.layout.specs.declared.Shape.{Shape}
use Rattle.consistency.specs.Consistent.{check_number}
use Rattle.plan.specs.Jobs.{Job, jobs_in}
use Rattle.apply.specs.Apply.{apply_number}
use Rattle.crash_theorem.specs.Pick.{All, Empty, Has}
use Rattle.crash_theorem.specs.Turn.{Turn}
use Rattle.crash_theorem.specs.Change.{Change, plan}
use Rattle.crash_theorem.specs.Events.{EventOf, crash, State, step, decided}
use Rattle.crash_theorem.specs.Finish.{Finishes}
use Rattle.crash_theorem.specs.Plan.{Plan}
use Rattle.recover.specs.Job.{recovered}
use Rattle.image_store.proofs.ImageLaws.{images}
use Rattle.image_store.specs.Buffers.{Buffers, enough}
use Rattle.image_store.proofs.JobLaws.{jobs}
use Rattle.image_store.proofs.Operation.{planned_change, state_after}
use Rattle.rename_survives.specs.Run.{recovery_job}

-- the plan p for the image s, put into the buffer
module _ (h : Shape) (s : List ℕ) (p : Plan (images h s)) (buffer : List ℕ) where
  -- its rows and a recovery for each crash, and where it stands after events
  abbrev pub plan_jobs : Change (jobs h s)
  plan_jobs = planned_change h s p buffer recovery_job

  abbrev pub plan_state : List (EventOf (jobs h s)) → State (List ℕ) Job
  plan_state es = state_after h s p buffer recovery_job es

  -- What holds after a list of events, where the plan's bytes are `bytes` and its image after is t.
  pub record PlanSurvives (bytes t : List ℕ) (es : List (EventOf (jobs h s))) : Type 0 where
    -- at first the rows of the planned bytes wait
    pub first : plan plan_jobs ≡ jobs_in bytes
    -- recovery, lent buffers that are long enough, answers 0
    pub recovers : (b : Buffers) → T (enough b (plan_state es).img) → (recovered b.plan b.scratch (plan_state es).img).number ≡ 0
    -- and its rows can then be applied to the end
    pub can_finish : (b : Buffers) → T (enough b (plan_state es).img) → Finishes plan_jobs (step plan_jobs (plan_state es) (crash b))
    -- apply answers 0 for each row that waits
    pub applies : All (λ j. apply_number (plan_state es).img j.plan j.number ≡ 0) (plan_state es).waiting
    -- and while any waits, the turn of one has come
    pub turn : Empty (plan_state es).waiting ⊎ Turn (jobs h s).group (plan_state es).waiting
    -- once the rows of a recovery have all been applied: the image before, if the deciding row was not applied,
    pub undone : T (plan_state es).done → decided plan_jobs (plan_state es) ≡ false → (plan_state es).img ≡ p.before
    -- and the image after, if it was;
    pub done : T (plan_state es).done → decided plan_jobs (plan_state es) ≡ true → (plan_state es).img ≡ t
    -- check answers 0 on either
    pub checked : T (plan_state es).done → check_number (plan_state es).img ≡ 0
    -- the deciding row was applied exactly if it is among the rows of the operation that were
    pub decision : T (decided plan_jobs (plan_state es)) ↔ Has (plan_state es).applied plan_jobs.decide
