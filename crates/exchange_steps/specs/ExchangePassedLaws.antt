-- An exchange that is planned has passed each test of its order of refusal, which never answers as that of a rename does. Assumes nothing.
use Rattle.std.specs.Prelude.{◌≡◌, refl, true, [], ◌∷◌}
use Rattle.std.proofs.Common.{sym, ap}
use Rattle.std.proofs.lemmas.Bool.{false≢true}
use Rattle.layout.specs.View.{View}
use Rattle.refusals.specs.Answered.{Planned, Exchanged}
use Rattle.refusals.specs.declared.case.Case.{Case}
use Rattle.refusals.specs.Rules.{decide}
use Rattle.refusals.specs.Decide.{parents_first}
use Rattle.refusals.specs.Passes.{is_exchanged}
use Rattle.refusals.proofs.PassesLaws.{passes_before, passes}
use Rattle.exchange_steps.specs.Exchange.{other_rules, exchange_steps}
use Rattle.exchange_steps.specs.ExchangePassed.{ExchangePassed}

pub exchange_passed : (v : View) (c : Case) → decide (exchange_steps v c) ≡ Exchanged → ExchangePassed v c
exchange_passed v c e =
    let p = passes_before is_exchanged (record { test = true; answer = Exchanged } ∷ []) (parents_first v c (other_rules v c)) refl (ap is_exchanged e) in
    let q = p.1.1.1.1.1.1.1.1 in
    record {
      other = p.0;
      writable = p.1.0;
      one_system = p.1.1.0;
      unmounted = p.1.1.1.0;
      permitted = p.1.1.1.1.0;
      unstuck = p.1.1.1.1.1.0;
      target_unstuck = p.1.1.1.1.1.1.0;
      outside = p.1.1.1.1.1.1.1.0;
      above = q.0;
      movable = q.1.0;
      target_movable = q.1.1.0;
      into_room = q.1.1.1.0;
      from_room = q.1.1.1.1.0;
    }

-- an exchange is never planned as a rename: its last rule always holds
pub exchange_unplanned : (v : View) (c : Case) → decide (exchange_steps v c) ≡ Planned → ⊥
exchange_unplanned v c e = false≢true (sym (passes (exchange_steps v c) refl e).1.1.1.1.1.1.1.1.1.1.1.1.1.0)
