-- The plan's bytes, applied whole: whatever order the groups permit, the finished image comes of it. Assumes nothing.
use Rattle.std.specs.Prelude.{◌≡◌, refl, List, [], ◌∷◌, ◌++◌, ℕ, ◌≤◌, length}
use Rattle.std.proofs.Common.{ap, ◌∙◌, arith, lit≤, length-append}
use Rattle.layout.specs.declared.Shape.{Shape}
use Rattle.plan.specs.Form.{plan_rows, plan_bytes, count_of_rows, result_group}
use Rattle.plan.specs.Jobs.{Job, jobs_in}
use Rattle.plan.specs.Write.{Write}
use Rattle.recounts.specs.declared.Move.{Move}
use Rattle.results.specs.Results.{results, clear_row}
use Rattle.results.proofs.ResultRows.{results_le}
use Rattle.crash_theorem.specs.Pick.{All}
use Rattle.crash_theorem.proofs.PickLaws.{all_join}
use Rattle.crash_theorem.specs.Store.{put_all}
use Rattle.crash_theorem.specs.Order.{Permitted, Sorted}
use Rattle.moves.specs.Plan.{rename_rows, planned}
use Rattle.image_store.proofs.ImageLaws.{images}
use Rattle.image_store.proofs.JobLaws.{jobs}
use Rattle.image_store.proofs.Operation.{rows_in}
use Rattle.image_store.proofs.Safe.{planned_count as plan-counted, planned_whole, planned_in_order}
use Rattle.image_store.proofs.Levels.{level_sorted}
use Rattle.outcome.specs.Outcome.{finished}
use Rattle.outcome.specs.RenamePlan.{rename_plan}
use Rattle.outcome.proofs.RenamePlanLaws.{rename_rows_lem, rename_planned}
use Rattle.outcome.specs.Called.{Called}
use Rattle.outcome.proofs.PlanRows.{results_all, well_formed}

module _ (h : Shape) (s : List ℕ) (m : Move) (called : List ℕ) where
  group_at_least : (n : ℕ) → n ≤ result_group → All (λ w. n ≤ w.group) (results h s m)
  group_at_least n l = results_all h s m (λ w. n ≤ w.group) (λ _. l) (λ _. l) (λ _. l) l l l

  -- the results, and the clearing row
  behind_at_least : (n : ℕ) → n ≤ result_group → All (λ w. n ≤ w.group) (results h s m ++ clear_row h ∷ [])
  behind_at_least n l = all_join (λ w. n ≤ w.group) (results h s m) (clear_row h ∷ []) (group_at_least n l) (omega arith, tt)

  -- the rows stand in the order of their groups
  pub rows_sorted : Sorted (images h s) (rows_in h s (rename_plan h s m called))
  rows_sorted = (
    (lit≤ tt, behind_at_least 1 (lit≤ tt)),
    (
      behind_at_least 2 (lit≤ tt),
      level_sorted h s result_group (results h s m) (clear_row h ∷ [])
          (results_all h s m (λ w. w.group ≡ result_group) (λ _. refl) (λ _. refl) (λ _. refl) refl refl refl)
          (lit≤ tt, tt) (tt, tt),
    ),
  )

  -- and are at most nine
  pub rows_few : length (rows_in h s (rename_plan h s m called)) ≤ plan_rows
  rows_few = omega (arith, length-append (results h s m) (clear_row h ∷ []), results_le h s m)

module _ {h : Shape} {s : List ℕ} {m : Move} {called : List ℕ} (c : Called h s m called) (plan : List ℕ) (long : plan_bytes ≤ length plan) where
  -- the plan has as many rows as the job says
  pub planned_count : count_of_rows (planned h s m called plan) ≡ length (rename_rows h s m called)
  planned_count =
      rw (rename_planned h s m called plan) at (plan-counted h s (rename_plan h s m called) (well_formed c) plan long (rows_few h s m called))
      ∙ ap (λ (ws : List Write). length ws) (rename_rows_lem h s m called)

  -- In any order that the groups permit, by the job that applies one row (the papers' landing), the finished image.
  pub applied_whole : (js : List Job) → Permitted (jobs h s) (jobs_in (planned h s m called plan)) js → put_all (jobs h s) s js ≡ finished h s m called
  unfolding finished
  applied_whole js o = planned_whole h s (rename_plan h s m called) (well_formed c) plan long (rows_few h s m called) js (rw rename_planned o)

  -- In the order of the rows' numbers too.
  pub applied_in_order : put_all (jobs h s) s (jobs_in (planned h s m called plan)) ≡ finished h s m called
  unfolding finished
  applied_in_order =
      rw (rename_planned h s m called plan) at
      (planned_in_order h s (rename_plan h s m called) (well_formed c) plan long (rows_few h s m called) (rows_sorted h s m called))
