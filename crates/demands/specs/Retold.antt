-- The events of a call, and where it stands, as the crash theorem has them. Assumes nothing.
use Rattle.std.specs.Prelude.{List, ℕ}
use Rattle.plan.specs.Jobs.{Job}
use Rattle.crash_theorem.specs.Events as theory
use Rattle.image_store.specs.Buffers.{Buffers}
use Rattle.demands.specs.Crashes.{Event, apply, refused, crash, Whose, call, recovery, nobody, State}

-- what waits, by whose it is
abbrev pub phase : Whose → theory.Phase
phase call = theory.own
phase recovery = theory.recovering
phase nobody = theory.stopped

abbrev pub state_of : State → theory.State (List ℕ) Job
state_of x = record { img = x.image; waiting = x.waiting; phase = phase x.whose; applied = x.applied; done = x.done }

abbrev pub event_of : Event → theory.Event Job Buffers
event_of (apply i) = theory.apply i
event_of (refused plan n) = theory.stray (record { plan = plan; number = n })
event_of (crash plan scratch) = theory.crash (record { plan = plan; scratch = scratch })
