-- A job that answers with its rows follows recovery by records, as the crash theorem asks. Assumes nothing.
use Rattle.std.specs.Prelude.{◌≡◌, refl, ◌≢◌, List, ℕ, zero, suc}
use Rattle.std.proofs.Common.{ap, ◌∙◌, arith}
use Rattle.std.proofs.Math.Option.{Option, none, some}
use Rattle.layout.specs.declared.Shape.{Shape}
use Rattle.plan.specs.Jobs.{Job, jobs_in}
use Rattle.plan.specs.Write.{Write}
use Rattle.crash_theorem.proofs.FormRows.{Follows}
use Rattle.crash_theorem.specs.Plan.{lending}
use Rattle.image_store.proofs.ImageLaws.{images}
use Rattle.image_store.proofs.BuffersLaws.{enough_is}
use Rattle.image_store.proofs.JobForm.{job_form}
use Rattle.image_store.specs.Recovery.{RecoveryJob, waiting_at, waiting_after, AnswersRows}
use Rattle.image_store.specs.JobRows.{plan_of}
use Rattle.image_store.proofs.JobRowsLaws.{plan_does}

pub answer_none : (n : ℕ) (plan : List ℕ) → n ≢ 0 → waiting_at n plan ≡ none
answer_none zero plan d = absurd (d refl)
answer_none (suc n) plan d = refl

pub answer_zero : (n : ℕ) (plan : List ℕ) (js : List Job) → waiting_at n plan ≡ some js → n ≡ 0
answer_zero zero plan js e = refl
answer_zero (suc n) plan js e = let z : ◌≡◌ {A = ℕ} 0 1 = cc in absurd (omega arith)

-- So it follows that recovery in jobs, as the crash theorem asks.
pub answers_follow : (h : Shape) (s₀ : List ℕ) (recover : List ℕ → Option (List Write)) (𝓡 : RecoveryJob) → AnswersRows h s₀ recover 𝓡
    → Follows (job_form h s₀) (lending (images h s₀) recover) (waiting_after 𝓡)
answers_follow h s₀ recover 𝓡 𝓐 = record {
  answers = λ b s o t ws fits e.
      let f = 𝓐.fills b s o t ws e in (
        jobs_in (plan_of h b.plan ws),
        ap (λ (n : ℕ). waiting_at n (𝓡.plan b s)) f.success ∙ ap (λ (plan : List ℕ). some (jobs_in plan)) f.filled,
        plan_does h s o.read b.plan ws (enough_is b s t).0 f.room fits s₀,
      );
  refuses = λ b s o t. answer_none (𝓡.number b s) (𝓡.plan b s) (𝓐.refuses b s o t);
}
