-- An exchange and whatever befalls it: what holds after every list of events, in the words of the crash theorem. What a reader has to believe is demand 3,
-- which says it again in the jobs' own. Assumes nothing.
use Rattle.std.specs.Prelude.{◌≡◌, false, List, ℕ, T}
use Rattle.layout.specs.declared.Shape.{Shape}
use Rattle.layout.specs.View.{view_of}
use Rattle.recounts.specs.declared.Move.{Move}
use Rattle.exchanges.specs.Exchange.{exchange_planned}
use Rattle.crash_theorem.specs.Events.{EventOf, decided}
use Rattle.image_store.proofs.JobLaws.{jobs}
use Rattle.exchange_outcome.specs.Outcome.{exchanged}
use Rattle.exchange_outcome.specs.ExchangePlan.{exchange_plan}
use Rattle.rename_survives.specs.PlanSurvives.{PlanSurvives}
use Rattle.exchange_survives.specs.Run.{exchange_jobs, exchange_state, ExchangeKept, EachNamed}

-- What holds of the exchange m on the image s, planned into the buffer, after a list of events.
pub record ExchangeSurvives (h : Shape) (s : List ℕ) (m : Move) (buffer : List ℕ) (es : List (EventOf (jobs h s))) : Type 0 where
  -- what holds of every planned operation; the row that sets the journal record decides
  pub lasts : PlanSurvives h s (exchange_plan h s m) buffer (exchange_planned h s m buffer) (exchanged h s m) es
  -- both entries stay, for either inode, and an inode lacks these names only while both are the other's;
  pub names : ExchangeKept h s (exchange_state h s m buffer es).img m
  -- until the journal record is applied, and once a recovery is through, each inode has one of them
  pub before : decided (exchange_jobs h s m buffer) (exchange_state h s m buffer es) ≡ false → EachNamed (view_of h (exchange_state h s m buffer es).img) m
  pub after : T (exchange_state h s m buffer es).done → EachNamed (view_of h (exchange_state h s m buffer es).img) m
