-- A directory entry as it is made, and one with another target (form E). A reader has to believe this file. Assumes nothing.
use Rattle.std.specs.Prelude.{List, ◌∷◌, ◌++◌, [], ℕ, ◌-◌, length, replicate}
use Rattle.seq.specs.Bytes.{put}
use Rattle.seq.specs.Number.{bytes_of}

-- form E: the eight bytes in front of a name
abbrev pub entry_head : ℕ → ℕ → ℕ → List ℕ
entry_head parent target n = bytes_of 2 parent ++ bytes_of 2 target ++ n ∷ 0 ∷ 0 ∷ 0 ∷ []

-- form E: an entry in a record of this width, with zeros behind the name
unfoldable pub entry_bytes : ℕ → ℕ → ℕ → List ℕ → List ℕ
entry_bytes width parent target name = entry_head parent target (length name) ++ name ++ replicate (width - 8 - length name) 0

-- form E: an entry with another target
abbrev pub retargeted : ℕ → List ℕ → List ℕ
retargeted target r = put r 2 (bytes_of 2 target)
