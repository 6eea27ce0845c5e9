-- A rename as the crash theorem sees it: its change, the job that recovers, and where it stands after events. Assumes nothing.
use Rattle.std.specs.Prelude.{◌≡◌, ◌⊎◌, List, ℕ}
use Rattle.layout.specs.declared.Shape.{Shape}
use Rattle.layout.specs.View.{view_of}
use Rattle.edits.specs.Kinds.{EntryUsed}
use Rattle.plan.specs.Jobs.{Job}
use Rattle.recounts.specs.declared.Move.{Move}
use Rattle.crash_theorem.specs.Change.{Change}
use Rattle.crash_theorem.specs.Events.{EventOf, State}
use Rattle.crash_theorem.specs.Plan.{change}
use Rattle.recover.specs.Recover.{recover}
use Rattle.recover.specs.Job.{recovered}
use Rattle.image_store.proofs.ImageLaws.{images}
use Rattle.image_store.proofs.JobLaws.{jobs}
use Rattle.image_store.specs.Recovery.{RecoveryJob}
use Rattle.image_store.proofs.Operation.{planned_change, state_after}
use Rattle.outcome.specs.RenamePlan.{rename_plan}

-- a rename as the crash theorem sees it
abbrev pub rename_change : (h : Shape) (s : List ℕ) → Move → List ℕ → Change (images h s)
rename_change h s m called = change (images h s) (rename_plan h s m called) (recover h)

-- the job that recovers, as a crash calls it
abbrev pub recovery_job : RecoveryJob
recovery_job = record { number = λ b x. (recovered b.plan b.scratch x).number; plan = λ b x. (recovered b.plan b.scratch x).plan }

-- What no crash takes away: the moved inode has a name, and where an inode is replaced its slot keeps parent and name, and targets it or the moved one.
pub record NamesKept (h : Shape) (s x : List ℕ) (m : Move) : Type 0 where
  pub name : (j : ℕ) × EntryUsed (view_of h x) j × ((view_of h x).target j ≡ m.moved)
  pub parent : EntryUsed (view_of h s) m.new → (view_of h x).parent m.new ≡ (view_of h s).parent m.new
  pub called : EntryUsed (view_of h s) m.new → (view_of h x).name m.new ≡ (view_of h s).name m.new
  pub target : EntryUsed (view_of h s) m.new → ((view_of h x).target m.new ≡ (view_of h s).target m.new) ⊎ ((view_of h x).target m.new ≡ m.moved)

-- a rename whose plan fills `buffer`, and where it stands after events
module _ (h : Shape) (s : List ℕ) (m : Move) (called buffer : List ℕ) where
  abbrev pub rename_jobs : Change (jobs h s)
  rename_jobs = planned_change h s (rename_plan h s m called) buffer recovery_job

  abbrev pub rename_state : List (EventOf (jobs h s)) → State (List ℕ) Job
  rename_state es = state_after h s (rename_plan h s m called) buffer recovery_job es
