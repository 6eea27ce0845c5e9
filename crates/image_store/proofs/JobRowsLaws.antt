-- An operation's rows as jobs: rows put into a cleared plan are, row by row, what its bytes and numbers say. Assumes nothing.
use Rattle.std.specs.Prelude.{◌≡◌, refl, ℕ, zero, suc, ◌+◌, ◌≤◌, ◌<◌, get_or}
use Rattle.std.proofs.Common.{ap, ◌∙◌, add-zero, arith}
use mathlib.Core.List.{List, [], ◌∷◌, ◌++◌}
use Rattle.std.proofs.Math.ListN.{length, length-map}
use Rattle.layout.specs.declared.Shape.{Shape}
use Rattle.layout.specs.Facts.{Read}
use Rattle.plan.specs.Form.{Row, plan_rows, plan_bytes, rows_put, cleared, count_of_rows}
use Rattle.plan.specs.Jobs.{Job, jobs_from, jobs_in}
use Rattle.plan.proofs.Many.{rows_length, rows_stand, cleared_length, rows_count}
use Rattle.plan.proofs.FitLaws.{written_formed}
use Rattle.plan.specs.Write.{Write, rows_from}
use Rattle.plan.specs.Stands.{RowFormed, Stands, Each}
use Rattle.crash_theorem.specs.Pick.{All}
use Rattle.crash_theorem.proofs.FormRows.{Do}
use Rattle.image_store.specs.Image.{Fits}
use Rattle.image_store.proofs.JobLaws.{written_does}
use Rattle.image_store.proofs.JobForm.{job_form}
use Rattle.image_store.specs.JobRows.{plan_of}

pub jobs_append : (plan : List ℕ) (us vs : List Write) (i : ℕ)
    → jobs_from plan i (length (us ++ vs)) ≡ jobs_from plan i (length us) ++ jobs_from plan (i + length us) (length vs)
jobs_append plan [] vs i = rw add-zero
jobs_append plan (u ∷ us) vs i =
    let e : i + suc (length us) ≡ i + 1 + length us = omega arith in
    rw e (ap (λ (js : List Job). record { plan = plan; number = i } ∷ js) (jobs_append plan us vs (i + 1)))

pub jobs_length : (plan : List ℕ) (i n : ℕ) → length (jobs_from plan i n) ≡ n
jobs_length plan i zero = refl
jobs_length plan i (suc n) = ap suc (jobs_length plan (i + 1) n)

-- ---- the plan that an operation fills

module _ (h : Shape) where
  stand_do : (s₀ : List ℕ) → 1 ≤ h.width → (plan : List ℕ) → plan_bytes ≤ length plan → (d : Row) (ws : List Write) (i : ℕ) → i + length ws ≤ plan_rows
      → All (Fits h) ws
      → ((k : ℕ) → k < length ws → Stands plan (i + k) (get_or (rows_from h ws) k d))
      → Do (job_form h s₀) (jobs_from plan i (length ws)) ws
  stand_do s₀ some plan long d [] i room f s = tt
  stand_do s₀ some plan long d (w ∷ ws) i room f s = (
    written_does h s₀ some plan i w long (omega arith) f.0 (rw add-zero at (s 0 (omega arith))),
    stand_do s₀ some plan long d ws (i + 1) (omega arith) f.1 (λ k l.
        let e : i + 1 + k ≡ i + suc k = omega arith in
        rw e (s (suc k) (omega arith))),
  )

  module _ (s : List ℕ) (read : Read s h) where
    formed : (ws : List Write) → All (Fits h) ws → Each RowFormed (rows_from h ws)
    formed [] f = tt
    formed (w ∷ ws) f = (written_formed h s read.laid w.group w.key w.body f.0.writes, formed ws f.1)

    grouped : (ws : List Write) → All (Fits h) ws → Each (λ r. 1 ≤ r.group) (rows_from h ws)
    grouped [] f = tt
    grouped (w ∷ ws) f = (f.0.writes.first, grouped ws f.1)

    module _ (buffer : List ℕ) (ws : List Write) (long : plan_bytes ≤ length buffer) (room : length ws ≤ plan_rows) (f : All (Fits h) ws) where
      -- the plan has as many rows
      pub plan_count : count_of_rows (plan_of h buffer ws) ≡ length ws
      unfolding plan_of
      plan_count = rows_count (rows_from h ws) buffer long (rw length-map room) (formed ws f) (grouped ws f) ∙ length-map ws _

      pub plan_jobs_lem : jobs_in (plan_of h buffer ws) ≡ jobs_from (plan_of h buffer ws) 0 (length ws)
      plan_jobs_lem = rw plan_count

      plan_from : (s₀ : List ℕ) → Do (job_form h s₀) (jobs_from (plan_of h buffer ws) 0 (length ws)) ws
      unfolding plan_of
      plan_from s₀ =
          let d : Row = record { group = 0; offset = 0; bytes = 0; body = [] } in
          let n : length (rows_from h ws) ≡ length ws = length-map ws _ in
          let l : plan_bytes ≤ length (cleared buffer) = rw cleared_length long in
          stand_do s₀ (omega (arith, read.laid.width_least)) (rows_put (cleared buffer) 0 (rows_from h ws)) (rw rows_length l) d ws 0 (omega arith) f (λ k b.
          rows_stand d (rows_from h ws) (cleared buffer) 0 l (omega arith) (formed ws f) k (omega arith))

      -- row by row, the jobs of the plan's bytes do what the operation's rows say
      pub plan_does : (s₀ : List ℕ) → Do (job_form h s₀) (jobs_in (plan_of h buffer ws)) ws
      plan_does s₀ = rw plan_count (plan_from s₀)
