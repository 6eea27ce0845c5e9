-- What can befall a rename or an exchange once it is planned, in the definitions that the jobs' contracts cite (the papers' cuts; rules 112 to 116a). A reader
-- has to believe this file. Assumes nothing.
use Rattle.std.specs.Prelude.{Bool, true, false, ◌||◌, List, [], ◌∷◌, ℕ, zero, suc, eqb}
use Rattle.std.proofs.Math.Option.{Option, none, some}
use Rattle.plan.specs.Form.{row_group, journal_group, entry_group}
use Rattle.plan.specs.Jobs.{Job, jobs_in}
use Rattle.apply.specs.Apply.{apply_number, applied_image}
use Rattle.crash_theorem.specs.Pick.{Picked, pick, null}
use Rattle.crash_theorem.specs.Turn.{lowest}
use Rattle.recover.specs.Job.{recovered}

-- What can happen.
pub data Event : Type 0 where
  -- rule 113: the job land is given the waiting row at a place, counted from 0; out of turn, or past the end, it is not
  apply : ℕ → Event
  -- rule 114: the job land is given any plan and any number, and refuses; what it would take is no event, since nobody else writes the image
  refused : List ℕ → ℕ → Event
  -- rule 115: power fails (the papers' cut), and the job repair is given the image as it stands, a plan buffer and a scratch buffer
  crash : List ℕ → List ℕ → Event

-- Whose rows wait.
pub data Whose : Type 0 where
  call : Whose
  recovery : Whose
  nobody : Whose

-- A row that waits, a `Job`, is a plan's bytes and the row's number in it.
pub record State : Type 0 where
  -- the image as it stands
  pub image : List ℕ
  -- the rows that wait, in the order of their plan, and whose they are
  pub waiting : List Job
  pub whose : Whose
  -- the rows of the call's own plan that were applied, the last one first
  pub applied : List Job
  -- whether some recovery has answered 0 and its rows have all been applied
  pub done : Bool

abbrev pub group_of : Job → ℕ
group_of j = row_group j.plan j.number

-- a row of the call's own plan is noted
abbrev pub noted : Whose → Job → List Job → List Job
noted call r rs = r ∷ rs
noted recovery r rs = rs
noted nobody r rs = rs

-- a recovery is done once none of its rows waits, and stays so
abbrev pub ended : Whose → Bool → List Job → Bool
ended call done waiting = done
ended recovery done waiting = done || null waiting
ended nobody done waiting = done

-- rule 113: the row r is applied, if its turn has come, and the rest waits
abbrev pub taken : Bool → State → Job → List Job → State
taken true x r rest = record {
  image = applied_image x.image r.plan r.number;
  waiting = rest;
  whose = x.whose;
  applied = noted x.whose r x.applied;
  done = ended x.whose x.done rest;
}
taken false x r rest = x

-- its turn has come while nothing of a lower group waits
abbrev pub at_place : (x : State) → Option (Picked x.waiting) → State
at_place x none = x
at_place x (some p) = taken (lowest group_of (group_of p.0) p.1) x p.0 p.1

-- rule 114: where land would take the row there is no event
abbrev pub tried : Bool → State → List ℕ → ℕ → State
tried true x plan n = x
tried false x plan n = record { image = applied_image x.image plan n; waiting = x.waiting; whose = x.whose; applied = x.applied; done = x.done }

-- rule 115: what waited is lost; at 0 the rows of recovery's plan wait, and else nothing
abbrev pub answered : State → ℕ → List ℕ → State
answered x zero plan =
    record { image = x.image; waiting = jobs_in plan; whose = recovery; applied = x.applied; done = x.done || null (jobs_in plan) }
answered x (suc n) plan = record { image = x.image; waiting = []; whose = nobody; applied = x.applied; done = x.done }

-- the state after an event
abbrev pub step : State → Event → State
step x (apply i) = at_place x (pick i x.waiting)
step x (refused plan n) = tried (eqb (apply_number x.image plan n) 0) x plan n
step x (crash plan scratch) = answered x (recovered plan scratch x.image).number (recovered plan scratch x.image).plan

-- and after a list of them
abbrev pub run : State → List Event → State
run x [] = x
run x (e ∷ es) = run (step x e) es

-- rule 112: at first the rows of the call's plan wait, on the image that it was planned on
abbrev pub at_first : List ℕ → List ℕ → State
at_first s plan = record { image = s; waiting = jobs_in plan; whose = call; applied = []; done = false }

-- a row of this group was applied
abbrev pub has_group : ℕ → List Job → Bool
has_group g [] = false
has_group g (r ∷ rs) = eqb (group_of r) g || has_group g rs

-- rule 116: the row that decides a rename, the new entry's
abbrev pub entry_applied : State → Bool
entry_applied x = has_group entry_group x.applied

-- rule 116a: the row that decides an exchange, the journal record's
abbrev pub journal_applied : State → Bool
journal_applied x = has_group journal_group x.applied

-- all rows of a list applied by the job land, one after another
abbrev pub applied_all : List ℕ → List Job → List ℕ
applied_all s [] = s
applied_all s (r ∷ rs) = applied_all (applied_image s r.plan r.number) rs
