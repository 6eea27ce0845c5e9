-- The rows of the journaled plan are those of the job. Assumes nothing.
use Rattle.std.specs.Prelude.{◌≡◌, List, ℕ}
use Rattle.std.proofs.Math.Path.{refl}
use Rattle.layout.specs.declared.Shape.{Shape}
use Rattle.recounts.specs.declared.Move.{Move}
use Rattle.exchanges.specs.Exchange.{exchange_rows, exchange_planned}
use Rattle.image_store.proofs.Operation.{rows_in}
use Rattle.image_store.specs.JobRows.{plan_of}
use Rattle.exchange_outcome.specs.ExchangePlan.{exchange_plan}

module _ (h : Shape) (s : List ℕ) (m : Move) where
  -- the rows are those of the job, in its order, and so are the plan's bytes
  pub exchange_rows_lem : rows_in h s (exchange_plan h s m) ≡ exchange_rows h s m
  unfolding exchange_rows
  exchange_rows_lem = refl

  pub exchange_planned_lem : (plan : List ℕ) → plan_of h plan (rows_in h s (exchange_plan h s m)) ≡ exchange_planned h s m plan
  unfolding plan_of exchange_rows exchange_planned
  exchange_planned_lem plan = refl
