-- Looking a name up in a directory (rule 45). A reader has to believe this file. Assumes nothing.
use Rattle.std.specs.Prelude.{Bool, ◌&&◌, List, ℕ, eqb}
use Rattle.seq.specs.Search.{first}
use Rattle.seq.specs.Bytes.{equal_bytes}
use Rattle.layout.specs.View.{View, entry_used}

-- the entry in slot j is in use, lies in directory d and has this name
unfoldable pub is_named : View → ℕ → List ℕ → ℕ → Bool
is_named v d name j = entry_used v j && eqb (v.parent j) d && equal_bytes (v.name j) name

-- rule 45: the slot of a name in a directory, or the number of slots where there is none
unfoldable pub lookup : View → ℕ → List ℕ → ℕ
lookup v d name = first (is_named v d name) v.entries
