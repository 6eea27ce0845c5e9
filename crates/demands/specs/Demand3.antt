-- Demand 3: a rename survives every list of applied rows, refusals, crashes and recoveries. One claim over the whole list, on bytes. A reader has to believe this file. Assumes nothing.
use Rattle.std.specs.Prelude.{◌≡◌, ◌⊎◌, ◌↔◌, Bool, true, false, List, ℕ, ◌≤◌, ◌<◌}
use Rattle.seq.specs.Number.{span}
use Rattle.layout.specs.Contents.{shape_of}
use Rattle.layout.specs.View.{View, view_of, entry_used}
use Rattle.consistency.specs.Consistent.{check_number}
use Rattle.paths.specs.declared.request.Request.{Request}
use Rattle.paths.specs.Flags.{asks_exchange}
use Rattle.component.specs.Step.{existing}
use Rattle.crash_theorem.specs.Pick.{Has}
use Rattle.rename.specs.Order.{walks, inode_of}
use Rattle.rename.specs.Job.{renamed}
use Rattle.demands.specs.Crashes.{Event, entry_applied}
use Rattle.demands.specs.Outlives.{Outlives}
use Rattle.demands.specs.Demand2.{finished_image, the_plan, after}

-- What is given: a consistent image (check answers 0 on it), and a rename on it, with the flag that replaces nothing or without, that answered 0 with rows.
-- A time fits its eight bytes.
pub record GivenRename (s plan : List ℕ) (q : Request) (old new : List ℕ) : Type 0 where
  pub sound : check_number s ≡ 0
  pub asked : asks_exchange q ≡ false
  pub answered : (renamed s plan q old new).number ≡ 0
  pub rows : 1 ≤ (renamed s plan q old new).rows
  pub time : q.now < span 8

module _ (s plan : List ℕ) (q : Request) (old new : List ℕ) where
  -- the inode that old's walk found (the papers' S)
  abbrev pub moved : ℕ
  moved = inode_of (walks s plan q old new).old.found

  -- what the entries say before, and after a list of events
  abbrev pub before : View
  before = view_of (shape_of s) s

  abbrev pub now : List Event → View
  now es = view_of (shape_of s) (after s plan q old new es).image

  -- What holds after a list of events.
  pub record Demand3 (es : List Event) : Type 0 where
    -- it outlives them, and the new entry decides: once a recovery is done the image is the one before, if the new entry was not applied in the list, and the
    -- finished one, if it was
    pub outlives : Outlives s (finished_image s plan q old new) entry_applied (after s plan q old new es)
    -- the new entry was applied exactly if row 1 of the rename's plan was: no other of its rows is of group 2
    pub entry_is : (entry_applied (after s plan q old new es) ≡ true) ↔ Has (after s plan q old new es).applied (record { plan = the_plan s plan q old new; number = 1 })
    -- the moved inode has a name
    pub moved_named : (j : ℕ) × (j < (now es).entries) × (entry_used (now es) j ≡ true) × ((now es).target j ≡ moved)
    -- where new's walk found an entry, in slot n and for inode t, that slot keeps parent and name, and names t or the moved inode
    pub new_names : (d n t : ℕ) (slash : Bool) → (walks s plan q old new).new.found ≡ existing d n t slash
        → ((now es).parent n ≡ before.parent n) × ((now es).name n ≡ before.name n) × (((now es).target n ≡ t) ⊎ ((now es).target n ≡ moved))
