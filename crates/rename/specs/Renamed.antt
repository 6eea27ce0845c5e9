-- What the job rename answers: its number, how many rows the plan has, and the component checks that the walks of old and new began; and what the code hands
-- out of it. A reader has to believe this file. Assumes nothing.
use Rattle.std.specs.Prelude.{ℕ}
use Rattle.std.specs.Result.{result_unwrap_or}
use Rattle.layout.specs.Code.{code}
use Rattle.rename.specs.declared.Renamed as handed

pub record Renamed : Type 0 where
  pub number : ℕ
  pub rows : ℕ
  pub old : ℕ
  pub new : ℕ

-- a refused call has no rows
abbrev pub told : handed.Renamed → Renamed
told r = record { number = code r.rows; rows = result_unwrap_or r.rows 0; old = r.old; new = r.new }
