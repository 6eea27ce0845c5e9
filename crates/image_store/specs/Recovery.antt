-- The job that recovers an image (the papers' repair), by its number and its plan, and what it owes to the crash theorem. Assumes nothing.
use Rattle.std.specs.Prelude.{◌≡◌, ◌≢◌, not, List, ℕ, zero, suc, ◌≤◌, T, length}
use Rattle.std.proofs.Math.Option.{Option, none, some}
use Rattle.layout.specs.declared.Shape.{Shape}
use Rattle.plan.specs.Form.{plan_rows}
use Rattle.plan.specs.Jobs.{Job, jobs_in}
use Rattle.plan.specs.Write.{Write}
use Rattle.image_store.specs.Image.{Ok}
use Rattle.image_store.specs.Buffers.{Buffers, enough}
use Rattle.image_store.specs.JobRows.{plan_of}

-- The job as a crash calls it: for the buffers and the image, its number, and its plan buffer afterwards. Nobody reads its scratch.
pub record RecoveryJob : Type 0 where
  pub number : Buffers → List ℕ → ℕ
  pub plan : Buffers → List ℕ → List ℕ

-- what then waits: at 0 the rows of the plan, and else nothing
abbrev pub waiting_at : ℕ → List ℕ → Option (List Job)
waiting_at zero plan = some (jobs_in plan)
waiting_at (suc n) plan = none

abbrev pub waiting_after : RecoveryJob → Buffers → List ℕ → Option (List Job)
waiting_after 𝓡 b s = waiting_at (𝓡.number b s) (𝓡.plan b s)

-- The job answers 0, and its plan buffer holds these rows.
pub record Fills (h : Shape) (𝓡 : RecoveryJob) (b : Buffers) (s : List ℕ) (ws : List Write) : Type 0 where
  pub success : 𝓡.number b s ≡ 0
  pub filled : 𝓡.plan b s ≡ plan_of h b.plan ws
  pub room : length ws ≤ plan_rows

-- What the job owes on an image with the layout of s₀, where `recover` says by record what is to be written.
pub record AnswersRows (h : Shape) (s₀ : List ℕ) (recover : List ℕ → Option (List Write)) (𝓡 : RecoveryJob) : Type 0 where
  -- with buffers that are long enough it fills its plan with these rows
  pub fills : (b : Buffers) (s : List ℕ) → Ok h s₀ s → T (enough b s) → (ws : List Write) → recover s ≡ some ws → Fills h 𝓡 b s ws
  -- and with buffers that are too short it refuses
  pub refuses : (b : Buffers) (s : List ℕ) → Ok h s₀ s → T (not (enough b s)) → 𝓡.number b s ≢ 0
