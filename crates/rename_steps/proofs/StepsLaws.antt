-- The ways out of the order of refusal of a rename, by the numbers of its parts. Assumes nothing.
use Rattle.std.specs.Prelude.{◌≡◌, refl, List, [], ◌++◌}
use Rattle.std.proofs.Common.{◌∙◌}
use Rattle.layout.specs.View.{View}
use Rattle.refusals.specs.Answered.{Refused, Same, Planned}
use Rattle.refusals.specs.declared.case.Case.{Case}
use Rattle.refusals.specs.Rules.{Rule, number_of, decide, parent_rules}
use Rattle.refusals.proofs.DecideLaws.{decide_refused, decide_passed, first_same, first_parents, past_parents}
use Rattle.rename_steps.specs.Steps.{kind_rules, target_rules, steps}

module _ (v : View) (c : Case) where
  abbrev rest : List Rule
  rest = kind_rules v c ++ target_rules v c

  pub steps_same : c.moved ≡ c.replaced → decide (steps v c) ≡ Same
  steps_same e = first_same v c rest e

  module _ (other : c.moved ≡ c.replaced → ⊥) where
    pub steps_parents : (number_of (decide (parent_rules v c)) ≡ 0 → ⊥) → decide (steps v c) ≡ Refused (number_of (decide (parent_rules v c)))
    steps_parents some = first_parents v c rest other some

    module _ (parents : number_of (decide (parent_rules v c)) ≡ 0) where
      pub steps_kinds : (number_of (decide (kind_rules v c)) ≡ 0 → ⊥) → decide (steps v c) ≡ Refused (number_of (decide (kind_rules v c)))
      steps_kinds some = past_parents v c rest other parents ∙ decide_refused (target_rules v c) (kind_rules v c) some

      module _ (kinds : number_of (decide (kind_rules v c)) ≡ 0) where
        past_kinds : decide (steps v c) ≡ decide (target_rules v c)
        past_kinds = past_parents v c rest other parents ∙ decide_passed (target_rules v c) (kind_rules v c) refl kinds

        pub steps_target : (number_of (decide (target_rules v c)) ≡ 0 → ⊥) → decide (steps v c) ≡ Refused (number_of (decide (target_rules v c)))
        steps_target some = past_kinds ∙ decide_refused [] (target_rules v c) some

        pub steps_planned : number_of (decide (target_rules v c)) ≡ 0 → decide (steps v c) ≡ Planned
        steps_planned none = past_kinds ∙ decide_passed [] (target_rules v c) refl none

-- each way out
pub ruleset ways = (steps_same, steps_parents, steps_kinds, steps_target, steps_planned)
