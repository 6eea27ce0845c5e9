-- An exchange survives whatever befalls it: one claim over every list of events. Assumes nothing.
use Rattle.std.specs.Prelude.{List, ℕ, ◌≤◌, length}
use Rattle.layout.specs.declared.Shape.{Shape}
use Rattle.plan.specs.Form.{plan_bytes}
use Rattle.recounts.specs.declared.Move.{Move}
use Rattle.crash_theorem.specs.Events.{EventOf}
use Rattle.image_store.proofs.JobLaws.{jobs}
use Rattle.exchange_outcome.specs.Paired.{Paired}
use Rattle.exchange_survives.proofs.Safe.{exchange_lasts, slots_kept, named_before, named_after}
use Rattle.exchange_survives.specs.Survives.{ExchangeSurvives}

-- The claim.
pub exchange_survives : {h : Shape} {s : List ℕ} {m : Move} → Paired h s m → (buffer : List ℕ) → plan_bytes ≤ length buffer
    → (es : List (EventOf (jobs h s))) → ExchangeSurvives h s m buffer es
exchange_survives c buffer long es = record {
  lasts = exchange_lasts c buffer long es;
  names = slots_kept c buffer long es;
  before = named_before c buffer long es;
  after = named_after c buffer long es;
}
