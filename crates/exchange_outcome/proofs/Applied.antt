-- The plan's bytes of an exchange, applied whole: whatever order the groups permit, the finished image comes of it. Assumes nothing.
use Rattle.std.specs.Prelude.{◌≡◌, refl, List, [], ◌∷◌, ◌++◌, ℕ, ◌≤◌, length}
use Rattle.std.proofs.Common.{ap, ◌∙◌, arith, length-append}
use Rattle.std.proofs.Math.Dec.{lit≤}
use Rattle.layout.specs.declared.Shape.{Shape}
use Rattle.plan.specs.Form.{plan_rows, plan_bytes, count_of_rows, entry_group, result_group}
use Rattle.plan.specs.Jobs.{Job, jobs_in}
use Rattle.plan.specs.Write.{Write}
use Rattle.recounts.specs.declared.Move.{Move}
use Rattle.results.specs.Results.{clear_row}
use Rattle.exchanges.specs.Exchange.{slot_rows, inode_rows, exchange_results, exchange_rows, exchange_planned}
use Rattle.exchanges.proofs.ExchangeRows.{exchange_le}
use Rattle.crash_theorem.specs.Pick.{All}
use Rattle.crash_theorem.proofs.PickLaws.{all_join}
use Rattle.crash_theorem.specs.Store.{put_all}
use Rattle.crash_theorem.specs.Order.{Permitted, Sorted}
use Rattle.image_store.proofs.ImageLaws.{images}
use Rattle.image_store.proofs.JobLaws.{jobs}
use Rattle.image_store.proofs.Operation.{rows_in}
use Rattle.image_store.proofs.Safe.{planned_count as plan-counted, planned_whole, planned_in_order}
use Rattle.image_store.proofs.Levels.{level_sorted}
use Rattle.exchange_outcome.specs.Outcome.{exchanged}
use Rattle.exchange_outcome.specs.ExchangePlan.{exchange_plan}
use Rattle.exchange_outcome.proofs.ExchangePlanLaws.{exchange_rows_lem, exchange_planned_lem}
use Rattle.exchange_outcome.specs.Paired.{Paired}
use Rattle.exchange_outcome.proofs.PlanRows.{inodes_all, rows_all, well_formed}

module _ (h : Shape) (s : List ℕ) (m : Move) where
  inodes_sorted : Sorted (images h s) (inode_rows h s m ++ clear_row h ∷ [])
  inodes_sorted =
      level_sorted h s result_group (inode_rows h s m) (clear_row h ∷ []) (inodes_all h s m (λ w. w.group ≡ result_group) refl refl (λ _. refl) refl) (lit≤ tt, tt) (tt, tt)

  -- the inodes come after the entries
  inodes_later : All (λ w. entry_group ≤ w.group) (inode_rows h s m ++ clear_row h ∷ [])
  inodes_later =
      all_join (λ w. entry_group ≤ w.group) (inode_rows h s m) (clear_row h ∷ [])
      (inodes_all h s m (λ w. entry_group ≤ w.group) (lit≤ tt) (lit≤ tt) (λ _. lit≤ tt) (lit≤ tt)) (lit≤ tt, tt)

  -- the rows stand in the order of their groups
  pub rows_sorted : Sorted (images h s) (rows_in h s (exchange_plan h s m))
  unfolding exchange_results
  rows_sorted = (
    all_join (λ w. 1 ≤ w.group) (exchange_results h s m) (clear_row h ∷ [])
        (rows_all h s m (λ w. 1 ≤ w.group) (lit≤ tt) (lit≤ tt) (lit≤ tt) (lit≤ tt) (λ _. lit≤ tt) (lit≤ tt)) (lit≤ tt, tt),
    level_sorted h s entry_group (slot_rows h s m) (inode_rows h s m ++ clear_row h ∷ []) (refl, (refl, tt)) inodes_later inodes_sorted,
  )

  -- and are at most nine
  pub rows_few : length (rows_in h s (exchange_plan h s m)) ≤ plan_rows
  rows_few = omega (arith, length-append (exchange_results h s m) (clear_row h ∷ []), exchange_le h s m)

module _ {h : Shape} {s : List ℕ} {m : Move} (c : Paired h s m) (plan : List ℕ) (long : plan_bytes ≤ length plan) where
  -- the plan has as many rows as the job says
  pub planned_count : count_of_rows (exchange_planned h s m plan) ≡ length (exchange_rows h s m)
  planned_count =
      rw (exchange_planned_lem h s m plan) at (plan-counted h s (exchange_plan h s m) (well_formed c) plan long (rows_few h s m))
      ∙ ap (λ (ws : List Write). length ws) (exchange_rows_lem h s m)

  -- In any order that the groups permit, by the job that applies one row (the papers' landing), the finished image.
  pub applied_whole : (js : List Job) → Permitted (jobs h s) (jobs_in (exchange_planned h s m plan)) js → put_all (jobs h s) s js ≡ exchanged h s m
  unfolding exchanged
  applied_whole js o = planned_whole h s (exchange_plan h s m) (well_formed c) plan long (rows_few h s m) js (rw exchange_planned_lem o)

  -- In the order of the rows' numbers too.
  pub applied_in_order : put_all (jobs h s) s (jobs_in (exchange_planned h s m plan)) ≡ exchanged h s m
  unfolding exchanged
  applied_in_order =
      rw (exchange_planned_lem h s m plan) at
      (planned_in_order h s (exchange_plan h s m) (well_formed c) plan long (rows_few h s m) (rows_sorted h s m))
