-- An operation on bytes: its rows as the jobs of one plan, its recovery as a job, and where it stands after events. Assumes nothing.
use Rattle.std.specs.Prelude.{List, ◌∷◌, ◌++◌, ℕ, ◌+◌, length}
use Rattle.layout.specs.declared.Shape.{Shape}
use Rattle.plan.specs.Jobs.{Job, jobs_from}
use Rattle.plan.specs.Write.{Write}
use Rattle.crash_theorem.specs.Change.{Change}
use Rattle.crash_theorem.specs.Events.{EventOf, State, start, run}
use Rattle.crash_theorem.specs.Plan.{Plan, ahead_of, decide_row, behind_of, after_of, PendingOf}
use Rattle.image_store.proofs.ImageLaws.{images}
use Rattle.image_store.proofs.JobLaws.{jobs}
use Rattle.image_store.specs.Recovery.{RecoveryJob, waiting_after}
use Rattle.image_store.specs.JobRows.{plan_of}

module _ (h : Shape) (s₀ : List ℕ) (p : Plan (images h s₀)) where
  -- its rows in the order of the plan: the journal record's and those of created records, the deciding one, the rest, the clearing one
  abbrev pub rows_in : List Write
  rows_in = ahead_of p.set p.decider ++ decide_row (images h s₀) p ∷ behind_of (images h s₀) p

  -- the change as apply (the papers' landing) and recovery (their repair) meet it: the rows are those of the plan in the caller's buffer
  abbrev pub planned_change : List ℕ → RecoveryJob → Change (jobs h s₀)
  planned_change buffer 𝓡 =
      let bytes = plan_of h buffer rows_in in
      let n = length (ahead_of p.set p.decider) in
      record {
        before = p.before;
        after = after_of (images h s₀) p;
        journal = p.set.key;
        marked = p.set.body;
        first = p.set.group;
        last = p.clear.group;
        ahead = jobs_from bytes 0 n;
        decide = record { plan = bytes; number = n };
        behind = jobs_from bytes (n + 1) (length (behind_of (images h s₀) p));
        pending = PendingOf (images h s₀) p;
        recover = waiting_after 𝓡;
      }

  -- where it stands after a list of events
  abbrev pub state_after : List ℕ → RecoveryJob → List (EventOf (jobs h s₀)) → State (List ℕ) Job
  state_after buffer 𝓡 es = run (planned_change buffer 𝓡) (start (planned_change buffer 𝓡)) es
