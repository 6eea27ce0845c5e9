-- A rename that is planned has passed each test of its order of refusal, which never answers as that of an exchange does. Assumes nothing.
use Rattle.std.specs.Prelude.{◌≡◌, refl, not}
use Rattle.std.proofs.Common.{sym, ap, ◌∙◌}
use Rattle.std.proofs.lemmas.Bool.{false≢true}
use Rattle.layout.specs.View.{View}
use Rattle.refusals.specs.Answered.{Planned, Exchanged}
use Rattle.refusals.specs.declared.case.Case.{Case}
use Rattle.refusals.specs.Rules.{decide}
use Rattle.refusals.proofs.DecideLaws.{decide_answer}
use Rattle.refusals.specs.Passes.{is_exchanged}
use Rattle.refusals.proofs.PassesLaws.{passes}
use Rattle.rename_steps.specs.Steps.{steps}
use Rattle.rename_steps.specs.Passed.{Passed}

pub planned_passed : (v : View) (c : Case) → decide (steps v c) ≡ Planned → Passed v c
planned_passed v c e =
    let p = passes (steps v c) refl e in
    let q = p.1.1.1.1.1.1.1.1 in
    record {
      other = p.0;
      writable = p.1.0;
      one_system = p.1.1.0;
      unmounted = p.1.1.1.0;
      permitted = p.1.1.1.1.0;
      unstuck = p.1.1.1.1.1.0;
      target_unstuck = p.1.1.1.1.1.1.0;
      outside = p.1.1.1.1.1.1.1.0;
      types = record { other = q.0; directory = q.1.0; slashed = q.1.1.0 };
      movable = q.1.1.1.0;
      empty = q.1.1.1.1.0;
      idle = q.1.1.1.1.1.0;
      countable = q.1.1.1.1.1.1.0;
      slot = q.1.1.1.1.1.1.1.0;
    }

-- a rename is never planned as an exchange
pub steps_unexchanged : (v : View) (c : Case) → decide (steps v c) ≡ Exchanged → ⊥
steps_unexchanged v c e = false≢true (sym (ap (λ a. not (is_exchanged a)) e) ∙ decide_answer (λ a. not (is_exchanged a)) (steps v c) refl refl)
