-- Names of directory entries: which bytes a name may hold (rules 25 to 27). A reader has to believe this file. Assumes nothing.
use Rattle.std.specs.Prelude.{Bool, ◌&&◌, ◌||◌, not, List, [], ◌∷◌, ℕ, eqb, length, get_or}
use Rattle.seq.specs.Search.{all}
use Rattle.seq.specs.Bytes.{equal_bytes}
use Rattle.seq.specs.Letters.{dot, solidus}
use Rattle.layout.specs.View.{View, entry_used}

-- rule 25: no byte of a name is 0 or a slash
abbrev pub name_byte : ℕ → Bool
name_byte b = not (eqb b 0) && not (eqb b solidus)

unfoldable pub plain_name : List ℕ → Bool
plain_name name = all (λ k. name_byte (get_or name k 0)) (length name)

-- rule 26: the names that stand for the directory itself and for its parent
unfoldable pub is_dots : List ℕ → Bool
is_dots name = equal_bytes name (dot ∷ []) || equal_bytes name (dot ∷ dot ∷ [])

-- rule 27: two entries in use share parent and name
unfoldable pub clash : View → ℕ → ℕ → Bool
clash v i j = entry_used v i && entry_used v j && eqb (v.parent i) (v.parent j) && equal_bytes (v.name i) (v.name j)
