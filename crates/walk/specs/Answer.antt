-- The code's answer of a walk: the end that it stands for, and all that a caller may rely on. Assumes nothing.
use Rattle.std.specs.Prelude.{◌≡◌, List, ℕ, ◌≤◌, Result, Ok, Err}
use Rattle.layout.specs.Limits.{step_limit}
use Rattle.layout.specs.View.{View}
use Rattle.component.specs.declared.state.Final.{Final}
use Rattle.component.specs.declared.state.Found.{Found}
use Rattle.component.specs.declared.state.Walk.{Walk}
use Rattle.layout.specs.declared.errno.Errno.{Errno}
use Rattle.layout.specs.Code.{number}
use Rattle.component.specs.Step.{Finding, nothing, End, Step, ends}
use Rattle.component.specs.State.{finding_of, Ranged}
use Rattle.walk.specs.declared.both.Walks.{Walks}
use Rattle.walk.specs.declared.resolve.Walked.{Walked}
use Rattle.walk.specs.Ends.{Facts}
use Rattle.walk.specs.Both.{Ends, old_final, new_final}

-- a walk that ends in this state
abbrev pub answer_of : Walk → Result Found Errno → Walked Errno
answer_of w found = record { steps = w.steps; found = found; path = w.path }

-- what a walk that was not refused has found; the name that it lacks is a range of the working path
abbrev pub found_in : {R : Type 0} → List ℕ → Result Found R → Finding
found_in path (Ok f) = finding_of path f
found_in path (Err e) = nothing

abbrev pub RangedIn : {R : Type 0} → List ℕ → Result Found R → Type 0
RangedIn path (Ok f) = Ranged path f
RangedIn path (Err e) = Unit {0}

-- the number of an answer, 0 unless the walk was refused, and the end that it stands for, however refusals are numbered
abbrev pub code_by : {R : Type 0} → (R → ℕ) → Result Found R → ℕ
code_by n (Ok f) = 0
code_by n (Err e) = n e

abbrev pub end_by : {R : Type 0} → (R → ℕ) → Walked R → End
end_by n r = record { number = code_by n r.found; steps = r.steps; found = found_in r.path r.found }

-- the same where they are numbered as on Linux
abbrev pub end_of : Walked Errno → End
end_of r = end_by number r

-- An answer that stands for an end, with a missing name inside its path.
pub record EndedBy {R : Type 0} (n : R → ℕ) (r : Walked R) (e : End) : Type 0 where
  pub is : end_by n r ≡ e
  pub range : RangedIn r.path r.found

-- The same where refusals are numbered as on Linux.
abbrev pub Ended : Walked Errno → End → Type 0
Ended r e = EndedBy number r e

-- A component that ends the walk with this answer.
pub record Closes (x : Step) (a : Walked Errno) : Type 0 where
  pub is : x ≡ ends (end_of a)
  pub range : RangedIn a.path a.found

-- The answer of a walk: the bound of its count, and the facts of its end, stand beside.
pub record Answered (v : View) (last : Final) (r : Walked Errno) (e : End) : Type 0 where
  pub is : end_of r ≡ e
  pub range : RangedIn r.path r.found
  pub bound : r.steps ≤ step_limit
  pub facts : Facts v last (end_of r)

-- Both answers, with all that a caller may rely on.
pub record BothAnswered (v : View) (r : Walks) (e : Ends) : Type 0 where
  pub old : Answered v old_final r.old e.old
  pub new : Answered v new_final r.new e.new
