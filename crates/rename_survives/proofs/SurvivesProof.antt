-- A rename survives whatever befalls it: one claim over every list of events. Assumes nothing.
use Rattle.std.specs.Prelude.{List, ℕ, ◌≤◌, length}
use Rattle.layout.specs.declared.Shape.{Shape}
use Rattle.plan.specs.Form.{plan_bytes}
use Rattle.recounts.specs.declared.Move.{Move}
use Rattle.crash_theorem.specs.Events.{EventOf}
use Rattle.image_store.proofs.JobLaws.{jobs}
use Rattle.outcome.specs.Called.{Called}
use Rattle.rename_survives.proofs.Safe.{rename_lasts, rename_kept}
use Rattle.rename_survives.specs.Survives.{Survives}

-- The claim.
pub rename_survives : {h : Shape} {s : List ℕ} {m : Move} {called : List ℕ} → Called h s m called → (buffer : List ℕ) → plan_bytes ≤ length buffer
    → (es : List (EventOf (jobs h s))) → Survives h s m called buffer es
rename_survives c buffer long es = record { lasts = rename_lasts c buffer long es; names = rename_kept c buffer long es }
