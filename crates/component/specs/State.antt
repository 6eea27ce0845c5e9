-- The code's state of a walk as a position of the definition: the unread rest is a part of the working path. Assumes nothing.
use Rattle.std.specs.Prelude.{◌≡◌, Bool, false, List, ℕ, ◌-◌, ◌≤◌, ◌<◌, length}
use Rattle.seq.specs.Bytes.{part}
use Rattle.layout.specs.Limits.{path_limit, step_limit, path_bytes}
use Rattle.layout.specs.declared.errno.Errno.{Errno}
use Rattle.layout.specs.Code.{number}
use Rattle.paths.specs.Path.{bare}
use Rattle.paths.specs.WorkingPath.{working_path}
use Rattle.component.specs.declared.state.Found.{Found}
use Rattle.component.specs.declared.state.Name.{Name}
use Rattle.component.specs.declared.state.Name.TheVariants.{Existing, Missing}
use Rattle.component.specs.declared.state.Leave.{Leave}
use Rattle.component.specs.declared.state.Leave.TheVariants.{Goes, Refuses, Finds}
use Rattle.component.specs.declared.state.Turn.{Turn}
use Rattle.component.specs.declared.state.Walk.{Walk}
use Rattle.component.specs.Step.{Position, Finding, existing, missing, nothing, Step, goes, ends}

-- the unread rest from index e on
abbrev pub rest_from : Walk → ℕ → List ℕ
rest_from w e = part w.path e (w.len - e)

-- the component from index a up to e
abbrev pub name_in : Walk → ℕ → ℕ → List ℕ
name_in w a e = part w.path a (e - a)

abbrev pub position_of : Walk → Position
position_of w = record { rest = rest_from w w.at; directory = w.directory; links = w.links; steps = w.steps; waived = w.waived }

-- what a path names, with the working path that a missing name is a range of
abbrev pub finding_by : List ℕ → ℕ → Bool → Name → Finding
finding_by path d slash (Existing j i) = existing d j i slash
finding_by path d slash (Missing a e) = missing d (part path a (e - a)) slash

abbrev pub finding_of : List ℕ → Found → Finding
finding_of path f = finding_by path f.directory f.slash f.name

-- how a component leaves the walk, however refusals are numbered
abbrev pub leave_by : {R : Type 0} → (R → ℕ) → Walk → Leave R → Step
leave_by n w Goes = goes (position_of w)
leave_by n w (Refuses e) = ends (record { number = n e; steps = w.steps; found = nothing })
leave_by n w (Finds f) = ends (record { number = 0; steps = w.steps; found = finding_of w.path f })

abbrev pub step_by : {R : Type 0} → (R → ℕ) → Turn R → Step
step_by n r = leave_by n r.walk r.leave

-- the same where they are numbered as on Linux
abbrev pub leave_of : Walk → Leave Errno → Step
leave_of w l = leave_by number w l

abbrev pub step_of : Turn Errno → Step
step_of r = step_by number r

-- a missing name lies inside the working path
abbrev pub NameRanged : List ℕ → Name → Type 0
NameRanged path (Existing j i) = Unit {0}
NameRanged path (Missing a e) = (a ≤ e) × (e ≤ length path)

abbrev pub Ranged : List ℕ → Found → Type 0
Ranged path f = NameRanged path f.name

-- A state that can be read: some component is left of a path that is short enough.
pub record Fit (w : Walk) : Type 0 where
  pub within : w.at ≤ w.len
  pub short : w.len ≤ path_limit
  pub whole : length w.path ≡ path_bytes
  pub more : bare (rest_from w w.at) ≡ false

-- what is known of a state that a component leaves so
abbrev pub Left : {R : Type 0} → Walk → Leave R → Type 0
Left w Goes = Fit w
Left w (Refuses e) = Unit {0}
Left w (Finds f) = Ranged w.path f

-- A component's answer: what it stands for, and that the walk can go on from it, or a missing name be read from it.
pub record TurnedBy {R : Type 0} (n : R → ℕ) (r : Turn R) (x : Step) : Type 0 where
  pub is : step_by n r ≡ x
  pub left : Left r.walk r.leave

-- The same where refusals are numbered as on Linux.
abbrev pub Turned : Turn Errno → Step → Type 0
Turned r x = TurnedBy number r x

-- What is known where a component has been read up to index e.
pub record ReadUpTo (w : Walk) (e : ℕ) : Type 0 where
  pub within : e ≤ w.len
  pub short : w.len ≤ path_limit
  pub whole : length w.path ≡ path_bytes
  pub few : w.steps < step_limit

-- the state in which the walk of a path begins
abbrev pub beginning : List ℕ → ℕ → Bool → Walk
beginning path directory waived = record { path = working_path path; len = length path; at = 0; directory = directory; links = 0; steps = 0; waived = waived }
