-- Demand 3 for an exchange: it survives every list of applied rows, refusals, crashes and recoveries, and its journal record decides. One claim over the whole
-- list, on bytes, beside that of a rename. A reader has to believe this file. Assumes nothing.
use Rattle.std.specs.Prelude.{◌≡◌, ◌⊎◌, ◌↔◌, Bool, true, false, List, ℕ, ◌≤◌, ◌<◌}
use Rattle.seq.specs.Number.{span}
use Rattle.layout.specs.View.{View, entry_used}
use Rattle.consistency.specs.Consistent.{check_number}
use Rattle.paths.specs.declared.request.Request.{Request}
use Rattle.paths.specs.Flags.{asks_exchange}
use Rattle.component.specs.Step.{existing}
use Rattle.crash_theorem.specs.Pick.{Has}
use Rattle.rename.specs.Order.{walks}
use Rattle.rename.specs.Job.{renamed}
use Rattle.demands.specs.Crashes.{Event, journal_applied}
use Rattle.demands.specs.Outlives.{Outlives}
use Rattle.demands.specs.Demand2.{finished_image, the_plan, after}
use Rattle.demands.specs.Demand3.{before, now}

-- What is given: a consistent image (check answers 0 on it), and an exchange on it that answered 0 with rows. A time fits its eight bytes.
pub record GivenExchange (s plan : List ℕ) (q : Request) (old new : List ℕ) : Type 0 where
  pub sound : check_number s ≡ 0
  pub asked : asks_exchange q ≡ true
  pub answered : (renamed s plan q old new).number ≡ 0
  pub rows : 1 ≤ (renamed s plan q old new).rows
  pub time : q.now < span 8

-- Slot j, in view w as in view v: in use, with the same parent and name, and it names inode i or inode t.
pub record SlotStands (v w : View) (j i t : ℕ) : Type 0 where
  pub used : entry_used w j ≡ true
  pub parent : w.parent j ≡ v.parent j
  pub name : w.name j ≡ v.name j
  pub target : (w.target j ≡ i) ⊎ (w.target j ≡ t)

-- Old's slot o named inode i, and new's slot n inode t. An inode may lack a name only while both slots name the other one.
pub record NamesStand (v w : View) (o i n t : ℕ) : Type 0 where
  pub old_slot : SlotStands v w o i t
  pub new_slot : SlotStands v w n i t
  pub first : ((w.target o ≡ t) × (w.target n ≡ t) → ⊥) → (w.target o ≡ i) ⊎ (w.target n ≡ i)
  pub second : ((w.target o ≡ i) × (w.target n ≡ i) → ⊥) → (w.target o ≡ t) ⊎ (w.target n ≡ t)

module _ (s plan : List ℕ) (q : Request) (old new : List ℕ) where
  -- What holds after a list of events.
  pub record ExchangeDemand3 (es : List Event) : Type 0 where
    -- it outlives them, and the journal record decides: once a recovery is done the image is the one before, if that row was not applied in the list, and the
    -- finished one, if it was
    pub outlives : Outlives s (finished_image s plan q old new) journal_applied (after s plan q old new es)
    -- the journal record was applied exactly if row 0 of the exchange's plan was: no other of its rows is of group 1
    pub journal_is : (journal_applied (after s plan q old new es) ≡ true)
        ↔ Has (after s plan q old new es).applied (record { plan = the_plan s plan q old new; number = 0 })
    -- both walks have found an entry, in slots o and n and for inodes i and t
    pub found : (d o i : ℕ) × (slash : Bool) × (e n t : ℕ) × (also : Bool)
        × ((walks s plan q old new).old.found ≡ existing d o i slash) × ((walks s plan q old new).new.found ≡ existing e n t also)
    -- both slots keep parent and name, and each names i or t
    pub names : (d o i : ℕ) (slash : Bool) → (walks s plan q old new).old.found ≡ existing d o i slash
        → (e n t : ℕ) (also : Bool) → (walks s plan q old new).new.found ≡ existing e n t also
        → NamesStand (before s plan q old new) (now s plan q old new es) o i n t
    -- until the journal record is applied, and once a recovery is done, each of i and t has one of the two names
    pub each_named : (d o i : ℕ) (slash : Bool) → (walks s plan q old new).old.found ≡ existing d o i slash
        → (e n t : ℕ) (also : Bool) → (walks s plan q old new).new.found ≡ existing e n t also
        → (journal_applied (after s plan q old new es) ≡ false) ⊎ ((after s plan q old new es).done ≡ true)
        → (((now s plan q old new es).target o ≡ i) × ((now s plan q old new es).target n ≡ t))
        ⊎ (((now s plan q old new es).target o ≡ t) × ((now s plan q old new es).target n ≡ i))
