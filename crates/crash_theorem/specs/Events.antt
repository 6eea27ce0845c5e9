-- The events that can befall a change, and the state that each leaves. Assumes nothing.
use Rattle.std.specs.Prelude.{Bool, true, false, ◌||◌, List, [], ◌∷◌, ℕ, eqb}
use Rattle.std.proofs.Math.Option.{Option, none, some}
use Rattle.crash_theorem.specs.Pick.{Picked, pick, null}
use Rattle.crash_theorem.specs.Turn.{lowest}
use Rattle.crash_theorem.specs.Store.{Store, Rows}
use Rattle.crash_theorem.specs.Change.{Change, plan}

-- What can happen, over rows and over what recovery is lent.
pub data Event (R L : Type 0) : Type 0 where
  -- the waiting row at a place is applied (the papers' landing); it counts only if its turn has come, with nothing of a lower group left
  apply : ℕ → Event R L
  -- any row at all is tried and refused; one that would be accepted is no event, since the image has no other writer
  stray : R → Event R L
  -- the waiting rows are gone, and recovery is called with these buffers, whatever their bytes and lengths (the papers' cut)
  crash : L → Event R L

-- the events of a store
abbrev pub EventOf : Store → Type 0
EventOf 𝓢 = Event 𝓢.Row 𝓢.Lent

-- Whose rows wait.
pub data Phase : Type 0 where
  -- those of the call's own plan
  own : Phase
  -- those of the last recovery (the papers' repair)
  recovering : Phase
  -- nobody's: the last recovery was refused
  stopped : Phase

-- Where a change stands.
pub record State (I R : Type 0) : Type 0 where
  -- the image as it stands
  pub img : I
  -- the rows not yet applied, in the order of their plan
  pub waiting : List R
  -- whose rows those are
  pub phase : Phase
  -- the rows of the call's own plan that were applied in the list of events, newest first
  pub applied : List R
  -- whether the rows of some recovery have all been applied
  pub done : Bool

-- the log of the call's own rows: a recovery's rows are none of them
abbrev pub logged {ℓ} : {R : Type ℓ} → Phase → R → List R → List R
logged own r log = r ∷ log
logged recovering r log = log
logged stopped r log = log

-- only a recovery whose rows have all been applied is done, and stays so
abbrev pub recovery_done : {R : Type 0} → Phase → Bool → List R → Bool
recovery_done own done waiting = done
recovery_done recovering done waiting = done || null waiting
recovery_done stopped done waiting = done

-- whether the call's own rows have all been applied, and no crash came
abbrev pub through : {R : Type 0} → Phase → List R → Bool
through own waiting = null waiting
through recovering waiting = false
through stopped waiting = false

module _ {𝓢 : Store} (𝓒 : Change 𝓢) where
  -- a state of this change
  abbrev pub St : Type 0
  St = State 𝓢.Img 𝓢.Row

  -- whether a row of the call's own plan is the deciding one, by its group. The obligations put no other row of the plan into that group,
  -- so this asks for the deciding row itself: the theorem says so in its field `decision`
  abbrev pub deciding : 𝓢.Row → Bool
  deciding r = eqb (𝓢.group r) (𝓢.group 𝓒.decide)

  -- whether it is among the rows applied
  abbrev pub decides : Rows 𝓢 → Bool
  decides [] = false
  decides (r ∷ log) = deciding r || decides log

  -- whether the deciding row was applied in the list of events
  abbrev pub decided : St → Bool
  decided s = decides s.applied

  -- the whole plan waits, on an image
  abbrev pub begin : 𝓢.Img → St
  begin X = record { img = X; waiting = plan 𝓒; phase = own; applied = []; done = false }

  -- on the one that it was made for
  abbrev pub start : St
  start = begin 𝓒.before

  -- row r was applied and the others still wait
  abbrev pub took : St → 𝓢.Row → Rows 𝓢 → St
  took s r rest = record {
    img = 𝓢.put s.img r;
    waiting = rest;
    phase = s.phase;
    applied = logged s.phase r s.applied;
    done = recovery_done s.phase s.done rest;
  }

  -- a row is taken if its turn has come; otherwise the event does not count
  abbrev pub turned : Bool → St → 𝓢.Row → Rows 𝓢 → St
  turned true s r rest = took s r rest
  turned false s r rest = s

  -- a place past the waiting rows names none
  abbrev pub turn : (s : St) → Option (Picked s.waiting) → St
  turn s none = s
  turn s (some p) = turned (lowest 𝓢.group (𝓢.group p.0) p.1) s p.0 p.1

  -- a row is tried on the image: one that is accepted is no event
  abbrev pub tried : Bool → St → 𝓢.Row → St
  tried true s r = s
  tried false s r = record { img = 𝓢.put s.img r; waiting = s.waiting; phase = s.phase; applied = s.applied; done = s.done }

  -- recovery answered: its rows wait, or nothing does
  abbrev pub answered : St → Option (Rows 𝓢) → St
  answered s none = record { img = s.img; waiting = []; phase = stopped; applied = s.applied; done = s.done }
  answered s (some w) =
      let done = recovery_done recovering s.done w in
      record { img = s.img; waiting = w; phase = recovering; applied = s.applied; done = done }

  -- the state after an event
  abbrev pub step : St → EventOf 𝓢 → St
  step s (apply i) = turn s (pick i s.waiting)
  step s (stray r) = tried (𝓢.accepts s.img r) s r
  step s (crash b) = answered s (𝓒.recover b s.img)

  -- and after a list of them
  abbrev pub run : St → List (EventOf 𝓢) → St
  run s [] = s
  run s (e ∷ es) = run (step s e) es
