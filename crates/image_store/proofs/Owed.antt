-- What an operation's rows owe, its jobs owe too: the jobs of its plan are its rows in another form. Assumes nothing.
use Rattle.std.specs.Prelude.{◌≡◌, refl, List, ◌∷◌, ℕ, ◌≤◌, length}
use Rattle.std.proofs.Common.{sym, ◌∙◌, zero-add}
use Rattle.std.proofs.Math.Option.{Option}
use Rattle.layout.specs.declared.Shape.{Shape}
use Rattle.plan.specs.Form.{plan_rows, plan_bytes}
use Rattle.plan.specs.Jobs.{jobs_in}
use Rattle.plan.specs.Write.{Write}
use Rattle.crash_theorem.specs.Pick.{All}
use Rattle.crash_theorem.specs.Change.{Change, plan}
use Rattle.crash_theorem.specs.Events.{start}
use Rattle.crash_theorem.specs.Obligations.{Orderly, Obligations}
use Rattle.crash_theorem.proofs.InvariantLaws.{fits_of, start_inv}
use Rattle.crash_theorem.proofs.FormRows.{Do, Carries}
use Rattle.crash_theorem.proofs.FormLaws.{carries_of, orderly_in, owed_in}
use Rattle.crash_theorem.specs.Plan.{Plan, WellFormed, Recovers, change}
use Rattle.crash_theorem.proofs.Planned.{orderly, journaled}
use Rattle.image_store.specs.Image.{Fits}
use Rattle.image_store.proofs.ImageLaws.{images}
use Rattle.image_store.proofs.JobLaws.{jobs}
use Rattle.image_store.proofs.JobForm.{job_form}
use Rattle.image_store.specs.Recovery.{RecoveryJob, AnswersRows}
use Rattle.image_store.proofs.RecoveryLaws.{answers_follow}
use Rattle.image_store.proofs.Operation.{rows_in, planned_change}
use Rattle.image_store.specs.JobRows.{plan_of}
use Rattle.image_store.proofs.JobRowsLaws.{jobs_length, jobs_append, plan_jobs_lem, plan_does}

module _ (h : Shape) (s₀ : List ℕ) (p : Plan (images h s₀)) (recover : List ℕ → Option (List Write)) (buffer : List ℕ) (𝓡 : RecoveryJob)
    (𝓦 : WellFormed (images h s₀) p) (long : plan_bytes ≤ length buffer) (room : length (rows_in h s₀ p) ≤ plan_rows) where
  -- the operation by its rows
  abbrev 𝓒 : Change (images h s₀)
  𝓒 = change (images h s₀) p recover

  -- and by its jobs
  abbrev 𝓙 : Change (jobs h s₀)
  𝓙 = planned_change h s₀ p buffer 𝓡

  abbrev 𝓞 : Orderly 𝓒
  𝓞 = orderly p recover 𝓦

  -- each replaces a record whole
  pub rows_fit : All (Fits h) (plan 𝓒)
  rows_fit = fits_of 𝓒 𝓞 (start 𝓒) (start_inv 𝓒 𝓞)

  -- all jobs of the plan's bytes do what the operation's rows say
  pub rows_do : Do (job_form h s₀) (jobs_in (plan_of h buffer (rows_in h s₀ p))) (rows_in h s₀ p)
  rows_do = plan_does h p.before 𝓦.ok.read buffer (plan 𝓒) long room rows_fit s₀

  -- what waits at first is all of them, as many as the bytes say
  pub first_waiting : plan 𝓙 ≡ jobs_in (plan_of h buffer (rows_in h s₀ p))
  first_waiting =
      sym (plan_jobs_lem h p.before 𝓦.ok.read buffer (plan 𝓒) long room rows_fit
      ∙ jobs_append (plan_of h buffer (plan 𝓒)) 𝓒.ahead (𝓒.decide ∷ 𝓒.behind) 0 ∙ rw zero-add)

  -- so the operation by its jobs is the one by its rows in that form
  pub carries : Carries (job_form h s₀) 𝓒 𝓙
  carries = carries_of (job_form h s₀) 𝓒 𝓙 refl (jobs_length _ 0 (length 𝓒.ahead)) (rw first_waiting rows_do)

  pub orderly_jobs : Orderly 𝓙
  orderly_jobs = orderly_in carries 𝓞

  -- all that the crash theorem asks
  pub obligations_jobs : Recovers (images h s₀) p recover → AnswersRows h s₀ recover 𝓡 → Obligations 𝓙
  obligations_jobs ρ 𝓐 = owed_in carries (answers_follow h s₀ recover 𝓡 𝓐) (journaled p recover 𝓦 ρ)
