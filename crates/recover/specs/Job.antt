-- The job that recovers an image, as definitions: its number, its rows, and its plan and scratch buffers afterwards, for any bytes (rules 102, 103 and 109
-- to 111). A reader has to believe this file. Assumes nothing.
use Rattle.std.specs.Prelude.{◌||◌, cond, List, [], ℕ, ltb, length, replicate}
use Rattle.std.proofs.Math.Option.{Option, none, some}
use Rattle.seq.specs.Bytes.{put}
use Rattle.layout.specs.declared.Shape.{Shape}
use Rattle.layout.specs.Errno.{short_buffer, not_recoverable, inconsistent}
use Rattle.layout.specs.Contents.{layout_good, shape_of}
use Rattle.consistency.specs.Sound.{journal_clear}
use Rattle.consistency.specs.Consistent.{consistent}
use Rattle.plan.specs.Form.{plan_bytes, rows_put, cleared}
use Rattle.plan.specs.Write.{Write, rows_from, store_all}
use Rattle.recover.specs.Recover.{pending_rows}

-- What the job answers, and its buffers after it.
pub record Recovered : Type 0 where
  pub number : ℕ
  pub rows : ℕ
  pub plan : List ℕ
  pub scratch : List ℕ

-- rules 109 and 110: what scratch shows over the image's length: the outcome, or zeros where there is none
abbrev pub outcome_of : Shape → List ℕ → Option (List Write) → List ℕ
outcome_of h x none = replicate (length x) 0
outcome_of h x (some ws) = store_all h x ws

module _ (plan scratch x : List ℕ) where
  -- a refusal that leaves both as they were
  abbrev pub refused : ℕ → Recovered
  refused n = record { number = n; rows = 0; plan = plan; scratch = scratch }

  -- the rows in the plan, the outcome in scratch; what lies past either stays
  abbrev pub done : Shape → List Write → Recovered
  done h ws = record {
    number = 0;
    rows = length ws;
    plan = rows_put (cleared plan) 0 (rows_from h ws);
    scratch = put scratch 0 (outcome_of h x (some ws));
  }

  -- rule 110: not recoverable leaves the plan as it was
  abbrev pub by_rows : Shape → Option (List Write) → Recovered
  by_rows h none = record { number = not_recoverable; rows = 0; plan = plan; scratch = put scratch 0 (outcome_of h x none) }
  by_rows h (some ws) = done h ws

  -- rule 103: by the journal record
  abbrev pub by_journal : Shape → Recovered
  by_journal h = cond (journal_clear h x) (cond (consistent x) (done h []) (refused inconsistent)) (by_rows h (pending_rows h x))

  -- rule 102: the buffers, and then the layout
  unfoldable pub recovered : Recovered
  recovered =
      cond (ltb (length plan) plan_bytes || ltb (length scratch) (length x)) (refused short_buffer)
      (cond (layout_good x) (by_journal (shape_of x)) (refused inconsistent))
