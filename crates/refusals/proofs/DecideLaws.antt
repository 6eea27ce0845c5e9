-- What the first rule that holds decides, for a list of rules taken in parts. Assumes nothing.
use Rattle.std.specs.Prelude.{◌≡◌, refl, Bool, true, false, not, cond, List, [], ◌∷◌, ◌++◌, ℕ, eqb}
use Rattle.std.proofs.Common.{◌∙◌, eq-eqb, ne_eqb}
use Rattle.std.proofs.lemmas.Bool.{eqb-false, not-true}
use Rattle.seq.specs.Truth.{and_left, and_right, by_test}
use Rattle.layout.specs.View.{View}
use Rattle.refusals.specs.Answered.{Answer}
use Rattle.refusals.specs.Answered.{Refused, Same, Planned, Exchanged}
use Rattle.refusals.specs.declared.case.Case.{Case}
use Rattle.refusals.specs.Case.{same_file}
use Rattle.refusals.specs.Rules.{Rule, number_of, decide, parent_rules}
use Rattle.refusals.specs.Decide.{answers, numbers, refusing, parents_first}

-- one rule
pub decide_here : (r : Rule) (rs : List Rule) → r.test ≡ true → decide (r ∷ rs) ≡ r.answer
decide_here r rs e = rw e

pub decide_on : (r : Rule) (rs : List Rule) → r.test ≡ false → decide (r ∷ rs) ≡ decide rs
decide_on r rs e = rw e

-- what is decided is a rule's answer, or that the call is planned
pub decide_answer : (p : Answer → Bool) (rs : List Rule) → p Planned ≡ true → answers p rs ≡ true → p (decide rs) ≡ true
decide_answer p [] none each = none
decide_answer p (r ∷ rs) none each =
    by_test (λ a. p a ≡ true) r.test r.answer (decide rs) (λ e. and_left _ (answers p rs) each)
    (λ e. decide_answer p rs none (and_right (p r.answer) _ each))

-- so the number decided is a rule's, or 0
pub decide_number : (p : ℕ → Bool) (rs : List Rule) → p 0 ≡ true → numbers p rs ≡ true → p (number_of (decide rs)) ≡ true
decide_number p rs none each = decide_answer (λ a. p (number_of a)) rs none each

-- an answer with a number is a refusal by it
numbered : (a : Answer) → (number_of a ≡ 0 → ⊥) → a ≡ Refused (number_of a)
numbered (Refused n) some = refl
numbered Same some = absurd (some refl)
numbered Planned some = absurd (some refl)
numbered Exchanged some = absurd (some refl)

-- A list whose rules refuse decides by its number: a refusal ends the order, and 0 leaves it to the rules behind.
module _ (ys : List Rule) where
  pub decide_refused : (xs : List Rule) → (number_of (decide xs) ≡ 0 → ⊥) → decide (xs ++ ys) ≡ Refused (number_of (decide xs))
  decide_refused [] some = absurd (some refl)
  decide_refused (r ∷ rs) some = go (decide_refused rs) r.test some
    where
      go : ((number_of (decide rs) ≡ 0 → ⊥) → decide (rs ++ ys) ≡ Refused (number_of (decide rs)))
          → (b : Bool) → (number_of (cond b r.answer (decide rs)) ≡ 0 → ⊥)
          → cond b r.answer (decide (rs ++ ys)) ≡ Refused (number_of (cond b r.answer (decide rs)))
      go rest true some = numbered r.answer some
      go rest false some = rest some

  pub decide_passed : (xs : List Rule) → refusing xs ≡ true → number_of (decide xs) ≡ 0 → decide (xs ++ ys) ≡ decide ys
  decide_passed [] each none = refl
  decide_passed (r ∷ rs) each none = go (decide_passed rs (and_right (not (eqb (number_of r.answer) 0)) _ each)) r.test none
    where
      go : (number_of (decide rs) ≡ 0 → decide (rs ++ ys) ≡ decide ys)
          → (b : Bool) → number_of (cond b r.answer (decide rs)) ≡ 0 → cond b r.answer (decide (rs ++ ys)) ≡ decide ys
      go rest true none = absurd (eqb-false _ _ (not-true (eqb (number_of r.answer) 0) (and_left _ (refusing rs) each)) none)
      go rest false none = rest none

-- the ways out by the part that both orders begin with; rs are the rules behind it
module _ (v : View) (c : Case) (rs : List Rule) where
  abbrev first : Rule
  first = record { test = same_file c; answer = Same }

  pub first_same : c.moved ≡ c.replaced → decide (parents_first v c rs) ≡ Same
  first_same e = decide_here first (parent_rules v c ++ rs) (eq-eqb _ _ e)

  module _ (other : c.moved ≡ c.replaced → ⊥) where
    past_first : decide (parents_first v c rs) ≡ decide (parent_rules v c ++ rs)
    past_first = decide_on first (parent_rules v c ++ rs) (ne_eqb _ _ other)

    pub first_parents : (number_of (decide (parent_rules v c)) ≡ 0 → ⊥) → decide (parents_first v c rs) ≡ Refused (number_of (decide (parent_rules v c)))
    first_parents some = past_first ∙ decide_refused rs (parent_rules v c) some

    pub past_parents : number_of (decide (parent_rules v c)) ≡ 0 → decide (parents_first v c rs) ≡ decide rs
    past_parents parents = past_first ∙ decide_passed rs (parent_rules v c) refl parents
