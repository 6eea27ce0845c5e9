-- The invariant of a run. Assumes nothing.
use Rattle.std.specs.Prelude.{◌≡◌, ◌⊎◌, ◌≢◌, Bool, true, false, ◌<◌}
use Rattle.crash_theorem.specs.Pick.{All}
use Rattle.crash_theorem.specs.Store.{Store, Rows}
use Rattle.crash_theorem.specs.Change.{Change}
use Rattle.crash_theorem.specs.Events.{Phase, own, recovering, stopped, St, decides}
use Rattle.crash_theorem.specs.Settle.{Settling}
use Rattle.crash_theorem.specs.Opening.{Opening}

module _ {𝓢 : Store} (𝓒 : Change 𝓢) where
  -- no crash came and no recovery is done
  abbrev pub Fresh : Phase → Bool → Type 0
  Fresh own false = Unit {0}
  Fresh own true = ⊥
  Fresh recovering done = ⊥
  Fresh stopped done = ⊥

  -- a row that was applied is the deciding one, or of another group
  abbrev pub Logged : 𝓢.Row → Type 0
  Logged r = (r ≡ 𝓒.decide) ⊎ (𝓢.group r ≢ 𝓢.group 𝓒.decide)

  -- of a phase, the rows applied, whether a recovery is done, the image, and the waiting rows
  pub data Holds (ph : Phase) (log : Rows 𝓢) (done : Bool) (X : 𝓢.Img) (W : Rows 𝓢) : Type 0 where
    -- the deciding row still waits, in the call's own plan
    opening : Fresh ph done → All (λ r. 𝓢.group r < 𝓢.group 𝓒.decide) log → Opening 𝓒 X W → Holds ph log done X W
    -- all rows that wait lead to the goal
    settling : All Logged log → Settling 𝓒 ph (decides 𝓒 log) done X W → Holds ph log done X W

  abbrev pub Inv : St 𝓒 → Type 0
  Inv s = Holds s.phase s.applied s.done s.img s.waiting
