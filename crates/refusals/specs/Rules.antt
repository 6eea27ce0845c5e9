-- An order of refusal: a list of tests and answers, of which the first that holds decides; and the part of it that is asked of the parents, steps 2 to 7
-- (rules 66 to 71). A reader has to believe this file. Assumes nothing.
use Rattle.std.specs.Prelude.{Bool, cond, List, [], ◌∷◌, ℕ}
use Rattle.layout.specs.Errno.{EROFS, EXDEV, EBUSY, EACCES, EPERM, EINVAL}
use Rattle.layout.specs.View.{View}
use Rattle.refusals.specs.Answered.{Answer}
use Rattle.refusals.specs.Answered.{Refused, Same, Planned, Exchanged}
use Rattle.refusals.specs.declared.case.Case.{Case}
use Rattle.refusals.specs.Case.{read_only_parent, other_system, mounted, parent_denied, moved_stuck, replaced_stuck, inside_itself}

-- the number of each answer
abbrev pub number_of : Answer → ℕ
number_of (Refused n) = n
number_of Same = 0
number_of Planned = 0
number_of Exchanged = 0

-- A test of the order, and how a call is answered where it is the first that holds.
pub record Rule : Type 0 where
  pub test : Bool
  pub answer : Answer

abbrev pub refuse : Bool → ℕ → Rule
refuse test n = record { test = test; answer = Refused n }

-- the first that holds decides; where none does, the call is planned
abbrev pub decide : List Rule → Answer
decide [] = Planned
decide (r ∷ rs) = cond r.test r.answer (decide rs)

module _ (v : View) (c : Case) where
  -- steps 2 to 7: what is asked of the parents
  abbrev pub parent_rules : List Rule
  parent_rules =
      refuse (read_only_parent v c) EROFS
      ∷ refuse (other_system v c) EXDEV
      ∷ refuse (mounted v c) EBUSY
      ∷ refuse (parent_denied v c) EACCES
      ∷ refuse (moved_stuck v c) EPERM
      ∷ refuse (replaced_stuck v c) EPERM
      ∷ refuse (inside_itself v c) EINVAL
      ∷ []
