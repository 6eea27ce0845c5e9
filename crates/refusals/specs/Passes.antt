-- What it means to pass a list of rules, each test by itself, and which answers plan. Assumes nothing.
use Rattle.std.specs.Prelude.{◌≡◌, Bool, true, false, not, List, [], ◌∷◌}
use Rattle.refusals.specs.Answered.{Answer}
use Rattle.refusals.specs.Answered.{Refused, Same, Planned, Exchanged}
use Rattle.refusals.specs.Rules.{Rule}
use Rattle.refusals.specs.Decide.{answers}

-- no rule's test holds
abbrev pub Passes : List Rule → Type 0
Passes [] = Unit
Passes (r ∷ rs) = (r.test ≡ false) × Passes rs

abbrev pub is_planned : Answer → Bool
is_planned (Refused n) = false
is_planned Same = false
is_planned Planned = true
is_planned Exchanged = false

abbrev pub is_exchanged : Answer → Bool
is_exchanged (Refused n) = false
is_exchanged Same = false
is_exchanged Planned = false
is_exchanged Exchanged = true

-- no rule of the list plans
abbrev pub deciding_rules : List Rule → Bool
deciding_rules rs = answers (λ a. not (is_planned a)) rs
