-- An exchange as the crash theorem sees it: its change, where it stands after events, and what becomes of the two names. Assumes nothing.
use Rattle.std.specs.Prelude.{◌≡◌, ◌⊎◌, List, ℕ}
use Rattle.layout.specs.declared.Shape.{Shape}
use Rattle.layout.specs.View.{View, view_of}
use Rattle.edits.specs.Kinds.{EntryUsed}
use Rattle.plan.specs.Jobs.{Job}
use Rattle.recounts.specs.declared.Move.{Move}
use Rattle.exchanges.specs.Exchange.{back}
use Rattle.crash_theorem.specs.Change.{Change}
use Rattle.crash_theorem.specs.Events.{EventOf, State}
use Rattle.crash_theorem.specs.Plan.{change}
use Rattle.recover.specs.Recover.{recover}
use Rattle.image_store.proofs.ImageLaws.{images}
use Rattle.image_store.proofs.JobLaws.{jobs}
use Rattle.exchange_outcome.specs.ExchangePlan.{exchange_plan}
use Rattle.rename_survives.specs.PlanSurvives.{plan_jobs, plan_state}

-- an exchange as the crash theorem sees it
abbrev pub exchange_change : (h : Shape) (s : List ℕ) → Move → Change (images h s)
exchange_change h s m = change (images h s) (exchange_plan h s m) (recover h)

-- an exchange whose plan fills `buffer`, and where it stands after events
module _ (h : Shape) (s : List ℕ) (m : Move) (buffer : List ℕ) where
  abbrev pub exchange_jobs : Change (jobs h s)
  exchange_jobs = plan_jobs h s (exchange_plan h s m) buffer

  abbrev pub exchange_state : List (EventOf (jobs h s)) → State (List ℕ) Job
  exchange_state es = plan_state h s (exchange_plan h s m) buffer es

-- What no crash takes away of a slot, the one that `moved` goes to: it is in use, keeps parent and name, and targets either inode.
pub record SlotKept (h : Shape) (s x : List ℕ) (m : Move) : Type 0 where
  pub used : EntryUsed (view_of h x) m.new
  pub parent : (view_of h x).parent m.new ≡ (view_of h s).parent m.new
  pub name : (view_of h x).name m.new ≡ (view_of h s).name m.new
  pub target : ((view_of h x).target m.new ≡ m.moved) ⊎ ((view_of h x).target m.new ≡ m.replaced)

-- both slots target inode i, and one of them does
abbrev pub BothTarget : View → Move → ℕ → Type 0
BothTarget w m i = (w.target m.old ≡ i) × (w.target m.new ≡ i)

abbrev pub OneTargets : View → Move → ℕ → Type 0
OneTargets w m i = (w.target m.old ≡ i) ⊎ (w.target m.new ≡ i)

-- Of both slots: an inode lacks these names only while both are the other's.
pub record ExchangeKept (h : Shape) (s x : List ℕ) (m : Move) : Type 0 where
  pub new : SlotKept h s x m
  pub old : SlotKept h s x (back m)
  pub moved : (BothTarget (view_of h x) m m.replaced → ⊥) → OneTargets (view_of h x) m m.moved
  pub replaced : (BothTarget (view_of h x) m m.moved → ⊥) → OneTargets (view_of h x) m m.replaced

-- each inode has one of the names: as before the exchange, or as after it
abbrev pub EachNamed : View → Move → Type 0
EachNamed w m =
    ((w.target m.old ≡ m.moved) × (w.target m.new ≡ m.replaced)) ⊎ ((w.target m.old ≡ m.replaced) × (w.target m.new ≡ m.moved))
