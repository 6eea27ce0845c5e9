-- Permission: the class that a caller falls in, and its bits (rule 43). A reader has to believe this file. Assumes nothing.
use Rattle.std.specs.Prelude.{Bool, ◌||◌, cond, ℕ, ◌*◌, ◌/◌, ◌%◌, eqb}
use Rattle.layout.specs.View.{View}
use Rattle.paths.specs.declared.request.Credentials.{Credentials}
use Rattle.paths.specs.Groups.{in_group}

-- the bits that permission speaks of
abbrev pub search_bit : ℕ
search_bit = 1

abbrev pub write_bit : ℕ
write_bit = 2

-- the weight of a bit in the class that applies: the owner's, else the group's, else the others'
abbrev pub weight : View → Credentials → ℕ → ℕ → ℕ
weight v who i bit = cond (eqb who.user (v.owner i)) (64 * bit) (cond (in_group who (v.group i)) (8 * bit) bit)

-- rule 43: user 0 passes; anyone else needs the bit in the class that applies
unfoldable pub allows : View → Credentials → ℕ → ℕ → Bool
allows v who i bit = eqb who.user 0 || eqb (v.mode i / weight v who i bit % 2) 1
