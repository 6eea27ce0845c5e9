-- The rows of the journaled plan are those of the job. Assumes nothing.
use Rattle.std.specs.Prelude.{◌≡◌, List, ℕ}
use Rattle.std.proofs.Math.Path.{refl}
use Rattle.layout.specs.declared.Shape.{Shape}
use Rattle.recounts.specs.declared.Move.{Move}
use Rattle.moves.specs.Plan.{rename_rows, planned}
use Rattle.image_store.proofs.Operation.{rows_in}
use Rattle.image_store.specs.JobRows.{plan_of}
use Rattle.outcome.specs.RenamePlan.{rename_plan}

module _ (h : Shape) (s : List ℕ) (m : Move) (called : List ℕ) where
  -- the rows are those of the job, in its order, and so are the plan's bytes
  pub rename_rows_lem : rows_in h s (rename_plan h s m called) ≡ rename_rows h s m called
  unfolding rename_rows
  rename_rows_lem = refl

  pub rename_planned : (plan : List ℕ) → plan_of h plan (rows_in h s (rename_plan h s m called)) ≡ planned h s m called plan
  unfolding plan_of rename_rows planned
  rename_planned plan = refl
