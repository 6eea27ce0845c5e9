-- What both walks have found decides the case of a rename, wherever their paths have the missing names. Assumes nothing.
use Rattle.std.specs.Prelude.{◌≡◌, refl, Bool, List, ℕ, Ok}
use Rattle.std.proofs.Common.{sym, ap₂, ◌∙◌}
use Rattle.layout.specs.declared.errno.Errno.{Errno}
use Rattle.layout.specs.View.{View}
use Rattle.paths.specs.declared.request.Request.{Request}
use Rattle.component.specs.declared.state.Found.{Found}
use Rattle.component.specs.declared.state.Name.{Name}
use Rattle.component.specs.declared.state.Name.TheVariants.{Existing, Missing}
use Rattle.component.specs.Step.{Finding}
use Rattle.component.specs.State.{finding_by, finding_of}
use Rattle.walk.specs.declared.resolve.Walked.{Walked}
use Rattle.walk.specs.Both.{Ends}
use Rattle.walk.specs.Answer.{found_in, end_of}
use Rattle.refusals.specs.declared.case.Case.{Case}
use Rattle.rename.specs.Order.{case_of}

module _ (v : View) (q : Request) where
  -- the case of two walks that end with these findings
  abbrev of_findings : Finding → Finding → Case
  of_findings f g =
      case_of v q (record { old = record { number = 0; steps = 0; found = f }; new = record { number = 0; steps = 0; found = g } })

  -- no part of it is read from a path: x and y are those of the one case, p and r those of the other
  module _ (p r x y : List ℕ) (d c : ℕ) (s t : Bool) where
    by_names : (n m : Name)
        → of_findings (finding_by x d s n) (finding_by y c t m) ≡ of_findings (finding_by p d s n) (finding_by r c t m)
    by_names (Existing j i) (Existing k l) = refl
    by_names (Existing j i) (Missing a b) = refl
    by_names (Missing a b) (Existing k l) = refl
    by_names (Missing a b) (Missing g h) = refl

  -- the case of two walks that were both not refused is that of any ends that found the same, by whatever paths
  pub case_found : {c : Case} (first second : Walked Errno) {from into : Found} → first.found ≡ Ok from → second.found ≡ Ok into
      → c ≡ case_of v q (record { old = end_of first; new = end_of second })
      → (e : Ends) (p r : List ℕ) → e.old.found ≡ finding_of p from → e.new.found ≡ finding_of r into → c ≡ case_of v q e
  case_found first second {from} {into} old new is e p r before after =
      is
      ∙ ap₂ (λ f g. of_findings (found_in first.path f) (found_in second.path g)) old new
      ∙ by_names p r first.path second.path from.directory into.directory from.slash into.slash from.name into.name
      ∙ sym (ap₂ of_findings before after)
