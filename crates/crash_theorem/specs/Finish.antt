-- What it means that a recovery can be carried through. Assumes nothing.
use Rattle.std.specs.Prelude.{Bool, List, T}
use Rattle.crash_theorem.specs.Pick.{All}
use Rattle.crash_theorem.specs.Store.{Store, Rows}
use Rattle.crash_theorem.specs.Change.{Change}
use Rattle.crash_theorem.specs.Events.{Event, EventOf, apply, stray, crash, recovering, St, run}

-- the event applies a row
abbrev pub OnlyApplies : {R L : Type 0} → Event R L → Type 0
OnlyApplies (apply i) = Unit {0}
OnlyApplies (stray r) = ⊥
OnlyApplies (crash b) = ⊥

module _ {𝓢 : Store} (𝓒 : Change 𝓢) where
  -- rows of a recovery wait
  abbrev pub pending : 𝓢.Img → Rows 𝓢 → Rows 𝓢 → Bool → St 𝓒
  pending X W log done = record { img = X; waiting = W; phase = recovering; applied = log; done = done }

  -- some rows applied in turn end with a recovery done
  abbrev pub Finishes : St 𝓒 → Type 0
  Finishes s = (es : List (EventOf 𝓢)) × All OnlyApplies es × T (run 𝓒 s es).done
