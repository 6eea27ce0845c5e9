-- What holds of a planned call, a rename or an exchange, after whatever has befallen it (rules 117 and 117a). A reader has to believe this file. Assumes nothing.
use Rattle.std.specs.Prelude.{◌≡◌, ◌⊎◌, Bool, true, false, List, map, ℕ, ◌≤◌, length}
use Rattle.consistency.specs.Consistent.{check_number}
use Rattle.plan.specs.Form.{plan_bytes}
use Rattle.apply.specs.Apply.{apply_number}
use Rattle.crash_theorem.specs.Pick.{All, Empty}
use Rattle.crash_theorem.specs.Turn.{Turn}
use Rattle.recover.specs.Job.{recovered}
use Rattle.demands.specs.Crashes.{apply, crash, State, group_of, step, run}

-- The image before, the one when the call is done, whether the row that decides was applied, and where things stand.
pub record Outlives (s t : List ℕ) (decided : State → Bool) (x : State) : Type 0 where
  -- a recovery with buffers that are long enough answers 0
  pub recovery_answers : (p c : List ℕ) → plan_bytes ≤ length p → length x.image ≤ length c → (recovered p c x.image).number ≡ 0
  -- each waiting row is taken: the job land answers 0 for it
  pub apply_takes : All (λ r. apply_number x.image r.plan r.number ≡ 0) x.waiting
  -- and while any waits, the turn of one has come
  pub apply_goes : Empty x.waiting ⊎ Turn group_of x.waiting
  -- once a recovery has answered 0 and its rows have all been applied: the image before, if the row that decides was not applied in the list,
  pub taken_back : x.done ≡ true → decided x ≡ false → x.image ≡ s
  -- and the finished one, if it was
  pub finished : x.done ≡ true → decided x ≡ true → x.image ≡ t
  -- either is consistent
  pub sound_again : x.done ≡ true → check_number x.image ≡ 0
  -- a crash, a recovery with buffers that are long enough, and then some rows applied, end with a recovery done
  pub can_finish : (p c : List ℕ) → plan_bytes ≤ length p → length x.image ≤ length c
      → (is : List ℕ) × ((run (step x (crash p c)) (map apply is)).done ≡ true)
