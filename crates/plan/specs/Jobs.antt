-- The rows of a plan as the job that applies a row is given them (rules 83 and 94): a plan's bytes, and which of its rows. A reader has to believe this file.
-- Assumes nothing.
use Rattle.std.specs.Prelude.{List, [], ◌∷◌, ℕ, zero, suc, ◌+◌}
use Rattle.plan.specs.Form.{count_of_rows}

pub record Job : Type 0 where
  pub plan : List ℕ
  pub number : ℕ

-- n rows of a plan, from number i on
abbrev pub jobs_from : List ℕ → ℕ → ℕ → List Job
jobs_from plan i zero = []
jobs_from plan i (suc n) = record { plan = plan; number = i } ∷ jobs_from plan (i + 1) n

-- all rows of a plan, as many as its bytes say
abbrev pub jobs_in : List ℕ → List Job
jobs_in plan = jobs_from plan 0 (count_of_rows plan)
