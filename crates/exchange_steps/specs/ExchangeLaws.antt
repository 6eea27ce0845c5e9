-- The ways out of the order of refusal of an exchange, by the numbers of its parts. Assumes nothing.
use Rattle.std.specs.Prelude.{◌≡◌, refl, true, List, [], ◌∷◌, ◌++◌}
use Rattle.std.proofs.Common.{◌∙◌}
use Rattle.layout.specs.View.{View}
use Rattle.refusals.specs.Answered.{Refused, Same, Exchanged}
use Rattle.refusals.specs.declared.case.Case.{Case}
use Rattle.refusals.specs.Rules.{Rule, number_of, decide, parent_rules}
use Rattle.exchange_steps.specs.Exchange.{other_rules, exchange_steps}
use Rattle.refusals.proofs.DecideLaws.{decide_refused, decide_passed, first_same, first_parents, past_parents}

-- the rule that always holds
abbrev last : List Rule
last = record { test = true; answer = Exchanged } ∷ []

module _ (v : View) (c : Case) where
  abbrev rest : List Rule
  rest = other_rules v c ++ last

  pub exchange_same : c.moved ≡ c.replaced → decide (exchange_steps v c) ≡ Same
  exchange_same e = first_same v c rest e

  module _ (other : c.moved ≡ c.replaced → ⊥) where
    pub exchange_parents : (number_of (decide (parent_rules v c)) ≡ 0 → ⊥) → decide (exchange_steps v c) ≡ Refused (number_of (decide (parent_rules v c)))
    exchange_parents some = first_parents v c rest other some

    module _ (parents : number_of (decide (parent_rules v c)) ≡ 0) where
      pub exchange_others : (number_of (decide (other_rules v c)) ≡ 0 → ⊥) → decide (exchange_steps v c) ≡ Refused (number_of (decide (other_rules v c)))
      exchange_others some = past_parents v c rest other parents ∙ decide_refused last (other_rules v c) some

      pub exchange_planned_lem : number_of (decide (other_rules v c)) ≡ 0 → decide (exchange_steps v c) ≡ Exchanged
      exchange_planned_lem none = past_parents v c rest other parents ∙ decide_passed last (other_rules v c) refl none

-- each way out
pub ruleset ways = (exchange_same, exchange_parents, exchange_others, exchange_planned_lem)
