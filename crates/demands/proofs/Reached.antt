-- A call that is planned has passed all that is asked ahead of its case: what is known then. Assumes nothing.
use Rattle.std.specs.Prelude.{◌≡◌, refl, Bool, true, not, List, [], ◌∷◌, ◌++◌, ℕ, eqb}
use Rattle.std.proofs.Common.{eqb-true}
use Rattle.std.proofs.lemmas.Bool.{not-false}
use Rattle.layout.specs.Contents.{shape_of}
use Rattle.layout.specs.View.{View, view_of}
use Rattle.paths.specs.declared.request.Request.{Request}
use Rattle.refusals.specs.Answered.{Answer}
use Rattle.refusals.specs.Answered.{Planned}
use Rattle.refusals.specs.Rules.{Rule, refuse, decide}
use Rattle.refusals.specs.Decide.{answers}
use Rattle.refusals.specs.Passes.{Passes}
use Rattle.refusals.proofs.PassesLaws.{passes_before}
use Rattle.rename.specs.Order.{walks, case_rules, early, order}
use Rattle.rename.specs.Job.{answer, case}

-- where no test of a list holds, the part behind decides
skipped : (xs ys : List Rule) → Passes xs → decide (xs ++ ys) ≡ decide ys
skipped [] ys p = refl
skipped (x ∷ xs) ys p = rw p.0 (skipped xs ys p.1)

module _ (s plan : List ℕ) (q : Request) (old new : List ℕ) where
  abbrev v : View
  v = view_of (shape_of s) s

  -- what is asked ahead of the case
  abbrev ahead : List Rule
  ahead =
      early s plan q old new
      ++ refuse (not (eqb (walks s plan q old new).old.number 0)) (walks s plan q old new).old.number
      ∷ refuse (not (eqb (walks s plan q old new).new.number 0)) (walks s plan q old new).new.number
      ∷ []

  -- an answer that none of it gives
  module _ (p : Answer → Bool) (each : answers (λ a. not (p a)) ahead ≡ true) (is : p (answer s plan q old new) ≡ true) where
    passed : Passes ahead
    unfolding order
    passed = passes_before p (case_rules v q (case s plan q old new)) ahead each is

    pub begun : decide (early s plan q old new) ≡ Planned
    begun = rw (passed.0, passed.1.0, passed.1.1.0, passed.1.1.1.0, passed.1.1.1.1.0, passed.1.1.1.1.1.0)

    pub old_whole : (walks s plan q old new).old.number ≡ 0
    old_whole = eqb-true _ _ (not-false _ passed.1.1.1.1.1.1.0)

    pub new_whole : (walks s plan q old new).new.number ≡ 0
    new_whole = eqb-true _ _ (not-false _ passed.1.1.1.1.1.1.1.0)

    pub by_case : answer s plan q old new ≡ decide (case_rules v q (case s plan q old new))
    unfolding order
    by_case = skipped ahead (case_rules v q (case s plan q old new)) passed
