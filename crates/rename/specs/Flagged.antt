-- How a case is answered by the flags of its request: refused by a flag, as a rename, or as an exchange. Assumes nothing.
use Rattle.std.specs.Prelude.{◌≡◌, ◌≢◌, ℕ}
use Rattle.layout.specs.Limits.{absent}
use Rattle.layout.specs.View.{View}
use Rattle.paths.specs.declared.request.Request.{Request}
use Rattle.paths.specs.Flags.{no_replace_flag, exchange_flag}
use Rattle.refusals.specs.Answered.{Refused}
use Rattle.refusals.specs.declared.case.Case.{Case}
use Rattle.refusals.specs.Rules.{decide}
use Rattle.rename_steps.specs.Steps.{steps}
use Rattle.exchange_steps.specs.Exchange.{exchange_steps}
use Rattle.rename.specs.Order.{case_rules}

-- The ways out, each with what the flags ask.
pub data Flagged (v : View) (q : Request) (c : Case) : Type 0 where
  refused : (n : ℕ) → decide (case_rules v q c) ≡ Refused n → Flagged v q c
  renames : q.flags ≢ exchange_flag → (q.flags ≡ no_replace_flag → c.replaced ≡ absent) → decide (case_rules v q c) ≡ decide (steps v c) → Flagged v q c
  exchanges : q.flags ≡ exchange_flag → c.replaced ≢ absent → decide (case_rules v q c) ≡ decide (exchange_steps v c) → Flagged v q c
