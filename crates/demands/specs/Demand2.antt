-- Demand 2: for a consistent image the job rename answers exactly as the rules say, with either flag or without, and its plan leaves exactly the finished image. A reader has to believe this file. Assumes nothing.
use Rattle.std.specs.Prelude.{◌≡◌, Bool, true, false, not, List, ◌∷◌, ℕ, ◌≤◌, ◌<◌, length}
use Rattle.seq.specs.Number.{span}
use Rattle.layout.specs.Errno.{EINVAL, wrong_request}
use Rattle.layout.specs.Contents.{shape_of}
use Rattle.layout.specs.View.{view_of}
use Rattle.consistency.specs.Consistent.{check_number}
use Rattle.paths.specs.declared.request.Request.{Request}
use Rattle.paths.specs.Request.{request_good}
use Rattle.paths.specs.Flags.{asks_no_replace, flags_good}
use Rattle.refusals.specs.Answered.{Answer}
use Rattle.refusals.specs.Answered.{Refused, Same, Planned, Exchanged}
use Rattle.refusals.specs.Rules.{Rule, refuse, number_of, decide}
use Rattle.plan.specs.Form.{plan_bytes, cleared}
use Rattle.plan.specs.Jobs.{jobs_in}
use Rattle.crash_theorem.specs.Pick.{Empty}
use Rattle.rename.specs.Order.{walks, inode_of, late}
use Rattle.rename.specs.Job.{answer, move, exchange, called, renamed, plan_after}
use Rattle.outcome.specs.Outcome.{finished}
use Rattle.exchange_outcome.specs.Outcome.{exchanged}
use Rattle.demands.specs.Crashes.{Event, State, call, run, at_first, applied_all}

-- What is given: a consistent image (check answers 0 on it), a plan buffer that is long enough, and a time that fits its eight bytes.
pub record Given (s plan : List ℕ) (q : Request) : Type 0 where
  pub sound : check_number s ≡ 0
  pub room : plan_bytes ≤ length plan
  pub time : q.now < span 8

-- rows were planned, of a rename or of an exchange
abbrev pub plans : Answer → Bool
plans (Refused n) = false
plans Same = false
plans Planned = true
plans Exchanged = true

module _ (s plan : List ℕ) (q : Request) (old new : List ℕ) where
  -- on a consistent image: the request's own test, its flags, old's walk, new's walk, what the flags ask of new's name, and the steps
  abbrev pub refusals : List Rule
  refusals = refuse (not (request_good (view_of (shape_of s) s) q old new)) wrong_request ∷ refuse (not (flags_good q)) EINVAL ∷ late s plan q old new

  -- the finished image: of a rename the one before with the new entry, the old one cleared, and the results; of an exchange the one before with both
  -- targets exchanged, and the results; and else the one before
  abbrev pub finished_by : Answer → List ℕ
  finished_by (Refused n) = s
  finished_by Same = s
  finished_by Planned = finished (shape_of s) s (move s plan q old new) (called s plan q old new)
  finished_by Exchanged = exchanged (shape_of s) s (exchange s plan q old new)

  abbrev pub finished_image : List ℕ
  finished_image = finished_by (answer s plan q old new)

  -- the plan as the rename left it, and where things stand after a list of events
  abbrev pub the_plan : List ℕ
  the_plan = plan_after s plan q old new

  abbrev pub after : List Event → State
  after es = run (at_first s the_plan) es

  pub record Demand2 : Type 0 where
    -- the answer is the first refusal that applies, in the order of the rules, or success if none does
    pub first_refusal : (renamed s plan q old new).number ≡ number_of (decide refusals)
    -- a refused rename leaves the plan buffer as it was
    pub untouched : (n : ℕ) → answer s plan q old new ≡ Refused n → the_plan ≡ plan
    -- the plan landed whole: where its rows have all been applied by the job land, in any order that their groups permit, the image is exactly the finished one
    pub landed : plans (answer s plan q old new) ≡ true → (es : List Event) → (after es).whose ≡ call → Empty (after es).waiting → (after es).image ≡ finished_image
    -- and so it is in the order of their numbers
    pub landed_in_order : plans (answer s plan q old new) ≡ true → applied_all s (jobs_in the_plan) ≡ finished_image
    -- which is consistent again
    pub sound_again : plans (answer s plan q old new) ≡ true → check_number finished_image ≡ 0
    -- two names of one file, once both paths resolve, but for a request that must not replace: success, and no row
    pub one_file : request_good (view_of (shape_of s) s) q old new ≡ true → flags_good q ≡ true → asks_no_replace q ≡ false
        → (walks s plan q old new).old.number ≡ 0 → (walks s plan q old new).new.number ≡ 0
        → inode_of (walks s plan q old new).old.found ≡ inode_of (walks s plan q old new).new.found
        → ((renamed s plan q old new).number ≡ 0) × ((renamed s plan q old new).rows ≡ 0) × (the_plan ≡ cleared plan)
