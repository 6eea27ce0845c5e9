-- The job rename for a request without flags: the order of refusal without what the flags ask, and what comes of it. A reader has to believe this file. Assumes nothing.
use Rattle.std.specs.Prelude.{◌≡◌, not, List, [], ◌∷◌, ◌++◌, ℕ, eqb, ltb, length}
use Rattle.layout.specs.Errno.{short_buffer, inconsistent, journal_pending, wrong_request}
use Rattle.layout.specs.Contents.{layout_good, shape_of}
use Rattle.consistency.specs.Sound.{journal_clear, bodies_good}
use Rattle.paths.specs.declared.request.Request.{Request}
use Rattle.paths.specs.Request.{request_good}
use Rattle.refusals.specs.Answered.{Answer}
use Rattle.refusals.specs.Rules.{Rule, refuse, number_of, decide}
use Rattle.rename_steps.specs.Steps.{steps}
use Rattle.plan.specs.Form.{plan_bytes}
use Rattle.rename.specs.Renamed.{Renamed}
use Rattle.rename.specs.Order.{view, walks}
use Rattle.rename.specs.Job.{case, rows_by, plan_by, count_by, renamed, plan_after}

module _ (s plan : List ℕ) (q : Request) (old new : List ℕ) where
  -- rule 63: what is asked before a walk begins
  abbrev pub plain_early : List Rule
  plain_early =
      refuse (ltb (length plan) plan_bytes) short_buffer
      ∷ refuse (not (layout_good s)) inconsistent
      ∷ refuse (not (journal_clear (shape_of s) s)) journal_pending
      ∷ refuse (not (bodies_good (shape_of s) s)) inconsistent
      ∷ refuse (not (request_good (view s plan q old new) q old new)) wrong_request
      ∷ []

  -- old's walk, new's walk, and steps 1 to 13
  abbrev pub plain_late : List Rule
  plain_late =
      refuse (not (eqb (walks s plan q old new).old.number 0)) (walks s plan q old new).old.number
      ∷ refuse (not (eqb (walks s plan q old new).new.number 0)) (walks s plan q old new).new.number
      ∷ steps (view s plan q old new) (case s plan q old new)

  abbrev pub plain_answer : Answer
  plain_answer = decide (plain_early ++ plain_late)

  abbrev pub plain_renamed : Renamed
  plain_renamed = record {
    number = number_of plain_answer;
    rows = rows_by s plan q old new plain_answer;
    old = count_by s plan q old new (decide plain_early) (walks s plan q old new).old.steps;
    new = count_by s plan q old new (decide plain_early) (walks s plan q old new).new.steps;
  }

  -- Without flags the job answers just so.
  pub record Unflagged : Type 0 where
    pub answer : renamed s plan q old new ≡ plain_renamed
    pub buffer : plan_after s plan q old new ≡ plan_by s plan q old new plain_answer
