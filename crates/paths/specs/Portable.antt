-- Portable names: those of letters, digits, dots, underscores and hyphens alone (rule 53a). A reader has to believe this file. Assumes nothing.
use Rattle.std.specs.Prelude.{Bool, ◌&&◌, ◌||◌, List, ℕ, eqb, leb, length, get_or}
use Rattle.seq.specs.Search.{all}
use Rattle.seq.specs.Letters.{A, Z, a, z, nought, nine, dot, underscore, hyphen}

-- a byte from one letter to another, both included
abbrev pub from_to : ℕ → ℕ → ℕ → Bool
from_to low high b = leb low b && leb b high

unfoldable pub is_portable_byte : ℕ → Bool
is_portable_byte b = from_to A Z b || from_to a z b || from_to nought nine b || eqb b dot || eqb b underscore || eqb b hyphen

unfoldable pub is_portable : List ℕ → Bool
is_portable name = all (λ k. is_portable_byte (get_or name k 0)) (length name)
