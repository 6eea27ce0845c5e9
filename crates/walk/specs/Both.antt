-- Both walks of a request: old's whole walk, then new's (rules 41 to 61). A reader has to believe this file. Assumes nothing.
use Rattle.std.specs.Prelude.{true, false, cond, List, ℕ, eqb}
use Rattle.layout.specs.View.{View}
use Rattle.paths.specs.declared.request.Request.{Request}
use Rattle.component.specs.declared.state.Final.{Final}
use Rattle.component.specs.Step.{End}
use Rattle.walk.specs.Walk.{halt, walk}

-- The ends of both walks.
pub record Ends : Type 0 where
  pub old : End
  pub new : End

-- rules 59 and 53a: old must name something, of any name; new need not, but its last name must be portable
abbrev pub old_final : Final
old_final = record { present = true; portable = false }

abbrev pub new_final : Final
new_final = record { present = false; portable = true }

module _ (v : View) (q : Request) where
  abbrev pub old_walk : List ℕ → End
  old_walk path = walk v q.who old_final q.current q.starts.old path

  abbrev pub new_walk : List ℕ → End
  new_walk path = walk v q.who new_final q.current q.starts.new path

  -- where old's walk is refused, new's does not begin, and ends with old's number; so the number of new's is that of both
  abbrev pub new_after : ℕ → List ℕ → End
  new_after number path = cond (eqb number 0) (new_walk path) (halt number)

  unfoldable pub walks_of : List ℕ → List ℕ → Ends
  walks_of old new = record { old = old_walk old; new = new_after (old_walk old).number new }
