-- A consistent directory entry: rules 10, 16, 21 to 26, 29 and 35. Assumes nothing.
use Rattle.std.specs.Prelude.{Bool, ◌&&◌, not, cond, List, ℕ, ◌+◌, ◌-◌, eqb, leb}
use Rattle.seq.specs.Bytes.{zeros}
use Rattle.layout.specs.declared.Shape.{Shape}
use Rattle.layout.specs.Limits.{name_offset}
use Rattle.layout.specs.View.{View, view_of, name_room, entry_at, is_directory, is_used}
use Rattle.names.specs.Name.{plain_name, is_dots}

-- rule 16: a free entry is all zero
abbrev pub entry_zero : Shape → List ℕ → ℕ → Bool
entry_zero h s j = zeros (entry_at h s j) 0 h.width

-- rule 24: a name fits its room
abbrev pub name_fits : Shape → List ℕ → ℕ → Bool
name_fits h s j = leb ((view_of h s).name_length j) (name_room h)

-- rule 10: the three bytes behind the length are zero, and the rest of the room is
abbrev pub length_padded : Shape → List ℕ → ℕ → Bool
length_padded h s j = zeros (entry_at h s j) 5 3

abbrev pub name_padded : Shape → List ℕ → ℕ → Bool
name_padded h s j = zeros (entry_at h s j) (name_offset + (view_of h s).name_length j) (name_room h - (view_of h s).name_length j)

unfoldable pub entry_formed : Shape → List ℕ → ℕ → Bool
entry_formed h s j = name_fits h s j && length_padded h s j

-- rules 25 and 10: no byte of the name is 0 or a slash, and what follows it is zero
unfoldable pub entry_spelled : Shape → List ℕ → ℕ → Bool
entry_spelled h s j = plain_name ((view_of h s).name j) && name_padded h s j

-- rule 26: the name is neither of the dots
abbrev pub own_name : View → ℕ → Bool
own_name v j = not (is_dots (v.name j))

-- rule 22: the parent is a directory
abbrev pub parent_good : View → ℕ → Bool
parent_good v j = is_directory v (v.parent j)

-- rule 23: the target is an inode in use
abbrev pub target_good : View → ℕ → Bool
target_good v j = is_used v (v.target j)

-- rule 21: and it is not the root
abbrev pub is_below_root : View → ℕ → Bool
is_below_root v j = not (eqb (v.target j) 0)

-- rule 29: a directory's field is the parent of its entry
abbrev pub field_is_parent : View → ℕ → ℕ → Bool
field_is_parent v target parent = eqb (v.field target) parent

-- rule 35: anything else is on its directory's file system
abbrev pub same_system : View → ℕ → ℕ → Bool
same_system v target parent = eqb (v.system target) (v.system parent)

abbrev pub held : View → ℕ → ℕ → Bool
held v target parent = cond (is_directory v target) (field_is_parent v target parent) (same_system v target parent)

-- what an entry in use names
unfoldable pub entry_linked : View → ℕ → Bool
entry_linked v j = parent_good v j && target_good v j && is_below_root v j && held v (v.target j) (v.parent j)

-- what is asked of an entry in use: it is formed, spelled, named and linked as it should be
unfoldable pub used_good : Shape → List ℕ → ℕ → Bool
used_good h s j = entry_formed h s j && entry_spelled h s j && own_name (view_of h s) j && entry_linked (view_of h s) j

unfoldable pub entry_good : Shape → List ℕ → ℕ → Bool
entry_good h s j = cond (eqb ((view_of h s).name_length j) 0) (entry_zero h s j) (used_good h s j)
