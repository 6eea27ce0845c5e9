-- The job's answer together with the plan buffer after it, and what is known where the walks begin. Assumes nothing.
use Rattle.std.specs.Prelude.{◌≡◌, true, List, ℕ, ◌≤◌, length}
use Rattle.layout.specs.declared.Shape.{Shape}
use Rattle.layout.specs.Limits.{step_limit, absent}
use Rattle.layout.specs.Facts.{Read}
use Rattle.layout.specs.View.{view_of, View}
use Rattle.consistency.specs.Consistent.{records_number}
use Rattle.paths.specs.declared.request.Request.{Request}
use Rattle.paths.specs.Request.{request_good}
use Rattle.paths.specs.Flags.{flags_good}
use Rattle.component.specs.Step.{Finding}
use Rattle.walk.specs.declared.both.Walks.{Walks}
use Rattle.walk.specs.Ends.{Existing, Missing}
use Rattle.walk.specs.Both.{Ends, new_final}
use Rattle.walk.specs.Answer.{end_of}
use Rattle.plan.specs.Form.{plan_bytes, plan_rows}
use Rattle.rename.specs.Renamed.{Renamed}
use Rattle.rename.specs.Order.{free_slot, directory_of, slot_of, inode_of, slash_of, name_of}
use Rattle.rename.specs.Job.{renamed, plan_after}

-- What the job answers, and the plan buffer after it.
pub record RenameAnswers (s plan : List ℕ) (q : Request) (old new : List ℕ) (r : Renamed) (after : List ℕ) : Type 0 where
  pub is : r ≡ renamed s plan q old new
  pub buffer : after ≡ plan_after s plan q old new

-- a refusal before any walk
abbrev pub refused_early : ℕ → Renamed
refused_early n = record { number = n; rows = 0; old = 0; new = 0 }

-- the ends of the code's walks
abbrev pub both_ends_of : Walks → Ends
both_ends_of w = record { old = end_of w.old; new = end_of w.new }

-- What is known where the walks begin.
pub record WalksBegin (s plan : List ℕ) (q : Request) (old new : List ℕ) (h : Shape) : Type 0 where
  pub long : plan_bytes ≤ length plan
  pub read : Read s h
  pub fine : records_number h s ≡ 0
  pub good : request_good (view_of h s) q old new ≡ true
  pub flags : flags_good q ≡ true

-- The parts of an answer are small: no more rows than a plan has, and no walk above the bound (rule 61).
pub record Small (r : Renamed) : Type 0 where
  pub rows : r.rows ≤ plan_rows
  pub old : r.old ≤ step_limit
  pub new : r.new ≤ step_limit

-- New's walk has found an entry, or a name that is missing.
pub data NewFound (v : View) (f : Finding) : Type 0 where
  by_entry : Existing v (directory_of f) (slot_of v f) (inode_of f) (slash_of f) → length (name_of f) ≡ 0 → NewFound v f
  by_name : inode_of f ≡ absent → slot_of v f ≡ free_slot v → Missing v new_final (directory_of f) (name_of f) → NewFound v f
