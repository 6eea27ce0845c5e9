-- Lists of rules by what they answer, and the part that the orders of a rename and of an exchange begin with. Assumes nothing.
use Rattle.std.specs.Prelude.{Bool, true, ◌&&◌, not, List, [], ◌∷◌, ◌++◌, ℕ, eqb}
use Rattle.layout.specs.View.{View}
use Rattle.refusals.specs.Answered.{Answer}
use Rattle.refusals.specs.Answered.{Same}
use Rattle.refusals.specs.declared.case.Case.{Case}
use Rattle.refusals.specs.Case.{same_file}
use Rattle.refusals.specs.Rules.{Rule, number_of, parent_rules}

-- the answer of each rule passes
abbrev pub answers : (Answer → Bool) → List Rule → Bool
answers p [] = true
answers p (r ∷ rs) = p r.answer && answers p rs

-- the number of each rule passes
abbrev pub numbers : (ℕ → Bool) → List Rule → Bool
numbers p rs = answers (λ a. p (number_of a)) rs

-- each rule refuses, by a number that is not 0
abbrev pub refusing : List Rule → Bool
refusing rs = numbers (λ n. not (eqb n 0)) rs

-- step 1 and what is asked of the parents, before other rules
abbrev pub parents_first : View → Case → List Rule → List Rule
parents_first v c rs = record { test = same_file c; answer = Same } ∷ (parent_rules v c ++ rs)
