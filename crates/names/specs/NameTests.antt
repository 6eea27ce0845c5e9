-- Names as the code asks for them: a good name, one as it lies in its entry's room, some duplicate, and what a reader of names relies on. Assumes nothing.
use Rattle.std.specs.Prelude.{◌≡◌, Bool, true, ◌&&◌, ◌||◌, not, List, ℕ, ◌+◌, ◌-◌, ◌<◌, ◌≤◌, eqb, ltb, length, get_or}
use Rattle.std.specs.Bool.{beq}
use Rattle.seq.specs.Bytes.{part, zeros}
use Rattle.seq.specs.Letters.{solidus}
use Rattle.seq.specs.Search.{any}
use Rattle.layout.specs.Limits.{name_offset}
use Rattle.layout.specs.declared.Shape.{Shape}
use Rattle.layout.specs.View.{View, view_of, name_room, entry_at, entry_used}
use Rattle.names.specs.Name.{clash, is_dots, plain_name}

unfoldable pub name_good : List ℕ → Bool
name_good name = plain_name name && not (is_dots name)

-- the bytes of a name that every edition has room for
abbrev pub front_bytes : ℕ
front_bytes = 24

-- byte k of the room is wrong for a name of n bytes: a slash, or not 0 exactly from the name's end on
abbrev pub front_wrong : List ℕ → ℕ → ℕ → Bool
front_wrong e n k = eqb (get_or e (name_offset + k) 0) solidus || not (beq (not (eqb (get_or e (name_offset + k) 0) 0)) (ltb k n))

unfoldable pub front_good : List ℕ → ℕ → Bool
front_good e n = not (any (front_wrong e n) front_bytes)

-- a name of n bytes in an entry's room is plain, and zeros follow it to the record's end
unfoldable pub name_spelled : List ℕ → ℕ → Bool
name_spelled e n = plain_name (part e name_offset n) && zeros e (name_offset + n) (length e - name_offset - n)

-- some entry clashes with an earlier one
unfoldable pub has_duplicate : View → Bool
has_duplicate v = any (λ j. any (λ i. clash v i j) j) v.entries

-- every name lies within its record, and zeros follow it there: what a reader of names relies on
pub record Named (h : Shape) (s : List ℕ) : Type 0 where
  pub fits : (j : ℕ) → j < h.entries → 8 + (view_of h s).name_length j ≤ h.width
  pub padded : (j : ℕ) → j < h.entries → entry_used (view_of h s) j ≡ true
      → zeros (entry_at h s j) (8 + (view_of h s).name_length j) (name_room h - (view_of h s).name_length j) ≡ true
