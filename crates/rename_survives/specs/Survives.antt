-- A rename and whatever befalls it: what holds after every list of events, in the words of the crash theorem. What a reader has to believe is demand 3,
-- which says it again in the jobs' own. Assumes nothing.
use Rattle.std.specs.Prelude.{List, ℕ}
use Rattle.layout.specs.declared.Shape.{Shape}
use Rattle.recounts.specs.declared.Move.{Move}
use Rattle.crash_theorem.specs.Events.{EventOf}
use Rattle.moves.specs.Plan.{planned}
use Rattle.image_store.proofs.JobLaws.{jobs}
use Rattle.outcome.specs.Outcome.{finished}
use Rattle.outcome.specs.RenamePlan.{rename_plan}
use Rattle.rename_survives.specs.Run.{NamesKept, rename_state}
use Rattle.rename_survives.specs.PlanSurvives.{PlanSurvives}

-- What holds of the move m on the image s, planned into the buffer, after a list of events.
pub record Survives (h : Shape) (s : List ℕ) (m : Move) (called buffer : List ℕ) (es : List (EventOf (jobs h s))) : Type 0 where
  -- what holds of every planned operation; the new entry decides
  pub lasts : PlanSurvives h s (rename_plan h s m called) buffer (planned h s m called buffer) (finished h s m called) es
  -- the moved inode has a name, and an entry that was there under the new name stays there, for the replaced inode or for the moved one
  pub names : NamesKept h s (rename_state h s m called buffer es).img m
