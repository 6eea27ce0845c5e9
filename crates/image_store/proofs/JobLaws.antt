-- The store that apply alone writes, and rows that an operation wrote. Assumes nothing.
use Rattle.std.specs.Prelude.{◌≡◌, refl, List, ℕ, ◌≤◌, ◌<◌, T, length}
use Rattle.std.proofs.Math.Path.{ap}
use Rattle.std.proofs.Common.{◌∙◌, eqb→eq}
use Rattle.layout.specs.declared.Shape.{Shape}
use Rattle.layout.specs.Place.{place}
use Rattle.plan.specs.Form.{Row, plan_rows, plan_bytes}
use Rattle.plan.specs.Jobs.{Job}
use Rattle.plan.specs.FitFacts.{Covered}
use Rattle.plan.proofs.FitLaws.{applicable_is, stands_applicable, written_fits}
use Rattle.plan.specs.Write.{Write, row_from}
use Rattle.plan.specs.Stands.{Stands}
use Rattle.apply.specs.Apply.{apply_number}
use Rattle.crash_theorem.specs.Pick.{All}
use Rattle.crash_theorem.proofs.PickLaws.{all_map}
use Rattle.crash_theorem.specs.Store.{Store}
use Rattle.crash_theorem.specs.Form.{store_of, Does}
use Rattle.image_store.specs.Image.{Fits}
use Rattle.image_store.proofs.CoveredLaws.{key_is}
use Rattle.image_store.specs.Job.{write_of}
use Rattle.image_store.proofs.JobForm.{job_form}

-- The same images, written by apply alone.
abbrev pub jobs : Shape → List ℕ → Store
jobs h s₀ = store_of (job_form h s₀)

-- so "each waiting row is accepted" says that apply answers 0 for each
pub answers_zero : (h : Shape) (s₀ s : List ℕ) (js : List Job) → All (λ j. T ((jobs h s₀).accepts s j)) js
    → All (λ j. apply_number s j.plan j.number ≡ 0) js
answers_zero h s₀ s js a =
    all_map (λ j. T ((jobs h s₀).accepts s j)) (λ j. apply_number s j.plan j.number ≡ 0) (λ j t. eqb→eq _ _ t) js a

-- ---- rows that an operation wrote

-- one that stands in a plan is there a job that does what it says
pub written_does : (h : Shape) (s₀ : List ℕ) → 1 ≤ h.width → (plan : List ℕ) (i : ℕ) (w : Write) → plan_bytes ≤ length plan → i < plan_rows → Fits h w
    → Stands plan i (row_from h w)
    → Does (job_form h s₀) (record { plan = plan; number = i }) w
written_does h s₀ some plan i w long below f stands = record {
  takes = record {
    long = long;
    row = applicable_is h plan i (stands_applicable h plan i _ below stands ∙ written_fits h w.group w.key w.body f.writes);
  };
  row = ap (λ (r : Row). write_of h r) stands.row ∙ back;
}
  where
    covered : Covered h (place h w.key.section w.key.index) (length w.body)
    covered = record { key = w.key; valid = f.writes.valid; allowed = f.writes.allowed; begins = refl; whole = f.writes.whole }

    back : write_of h (row_from h w) ≡ w
    back = λ t. record { group = w.group; key = key_is h some _ _ covered t; body = w.body }
