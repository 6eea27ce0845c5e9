-- A path and its components (rule 44). A reader has to believe this file. Assumes nothing.
use Rattle.std.specs.Prelude.{Bool, not, List, [], ◌∷◌, ℕ, eqb, length, get_or, take, drop}
use Rattle.seq.specs.Search.{first}
use Rattle.seq.specs.Bytes.{equal_bytes}
use Rattle.seq.specs.Letters.{dot, solidus}

abbrev pub is_slash : ℕ → Bool
is_slash b = eqb b solidus

-- how many slashes a path begins with
unfoldable pub slashes : List ℕ → ℕ
slashes p = first (λ k. not (is_slash (get_or p k 0))) (length p)

-- how many bytes stand ahead of its first slash
unfoldable pub until_slash : List ℕ → ℕ
until_slash p = first (λ k. is_slash (get_or p k 0)) (length p)

-- a path without the slashes that it begins with
abbrev pub skip : List ℕ → List ℕ
skip p = drop (slashes p) p

-- rule 44: the first component, and what stands behind it, its slashes first
abbrev pub component : List ℕ → List ℕ
component p = take (until_slash (skip p)) (skip p)

abbrev pub behind : List ℕ → List ℕ
behind p = drop (until_slash (skip p)) (skip p)

abbrev pub empty : List ℕ → Bool
empty p = eqb (length p) 0

-- nothing but slashes
abbrev pub bare : List ℕ → Bool
bare p = eqb (slashes p) (length p)

abbrev pub absolute : List ℕ → Bool
absolute p = is_slash (get_or p 0 0)

abbrev pub is_dot : List ℕ → Bool
is_dot name = equal_bytes name (dot ∷ [])

abbrev pub is_dot_dot : List ℕ → Bool
is_dot_dot name = equal_bytes name (dot ∷ dot ∷ [])
