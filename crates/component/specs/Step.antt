-- One component of a path: a list of tests and ways to go on, of which the first whose test holds decides (rules 50 to 60). A reader has to believe this
-- file. Assumes nothing.
use Rattle.std.specs.Prelude.{Bool, false, ◌&&◌, ◌||◌, not, cond, List, [], ◌∷◌, ◌++◌, ℕ, ◌+◌, ltb, leb, length}
use Rattle.layout.specs.Limits.{symlink_limit, path_limit}
use Rattle.layout.specs.Errno.{EPERM, EACCES, EINVAL, ELOOP, ENAMETOOLONG, ENOENT, ENOTDIR}
use Rattle.layout.specs.View.{View, is_directory, is_symlink}
use Rattle.paths.specs.declared.request.Credentials.{Credentials}
use Rattle.paths.specs.Path.{component, behind, empty, bare, absolute, is_dot, is_dot_dot}
use Rattle.paths.specs.Portable.{is_portable}
use Rattle.paths.specs.Permission.{search_bit, allows}
use Rattle.paths.specs.Lookup.{lookup}
use Rattle.component.specs.declared.state.Final.{Final}

-- Where a walk stands: the rest of the path that is still unread, the directory it is read from, the symlinks followed, the component
-- checks begun, and whether the next component's search permission is waived (rule 51).
pub record Position : Type 0 where
  pub rest : List ℕ
  pub directory : ℕ
  pub links : ℕ
  pub steps : ℕ
  pub waived : Bool

-- What a path names: an entry that exists, a name that its directory lacks, or nothing where the walk is refused. The Bool says whether
-- the path ends in a slash.
pub data Finding : Type 0 where
  existing : (directory slot inode : ℕ) → Bool → Finding
  missing : (directory : ℕ) (name : List ℕ) → Bool → Finding
  nothing : Finding

-- How a walk ends: the number it is answered with, 0 unless it is refused, the component checks begun, and what the path names.
pub record End : Type 0 where
  pub number : ℕ
  pub steps : ℕ
  pub found : Finding

-- How one component leaves a walk: it goes on from another position, or it ends.
pub data Step : Type 0 where
  goes : Position → Step
  ends : End → Step

-- The component check in hand counts, whichever way it leaves: it refuses the walk, it ends it with what the path names, or the walk goes
-- on with this rest in this directory.
abbrev pub refused_by : ℕ → Position → Step
refused_by n w = ends (record { number = n; steps = w.steps + 1; found = nothing })

abbrev pub names : Position → Finding → Step
names w found = ends (record { number = 0; steps = w.steps + 1; found = found })

abbrev pub go_to : Position → List ℕ → ℕ → Step
go_to w rest d = goes (record { rest = rest; directory = d; links = w.links; steps = w.steps + 1; waived = false })

-- rule 55: a symlink's text and the unread rest take the path's place, read from the directory that holds the symlink, or from the root
abbrev pub splice : Position → List ℕ → List ℕ → Step
splice w text rest =
    goes (record { rest = text ++ rest; directory = cond (absolute text) 0 w.directory; links = w.links + 1; steps = w.steps + 1; waived = false })

-- rule 44: the component in hand, and all that is unread behind it
abbrev pub name_at : Position → List ℕ
name_at w = component w.rest

abbrev pub unread : Position → List ℕ
unread w = behind w.rest

abbrev pub is_final : Position → Bool
is_final w = bare (unread w)

abbrev pub slash_behind : Position → Bool
slash_behind w = not (empty (unread w))

module _ (v : View) where
  -- rule 45: the slot in which the name is found, and the inode that its entry names
  abbrev pub slot_at : Position → ℕ
  slot_at w = lookup v w.directory (name_at w)

  abbrev pub is_missing : Position → Bool
  is_missing w = not (ltb (slot_at w) v.entries)

  abbrev pub target_at : Position → ℕ
  target_at w = v.target (slot_at w)

  abbrev pub at_directory : Position → Bool
  at_directory w = is_directory v (target_at w)

  -- rule 50: the component is read in a directory
  abbrev pub in_directory : Position → Bool
  in_directory w = is_directory v w.directory

  -- rule 51: search permission on it is not waived, and not had
  abbrev pub search_denied : Credentials → Position → Bool
  search_denied who w = not (w.waived || allows v who w.directory search_bit)

  -- rule 52: longer than a name can be
  abbrev pub overlong : Position → Bool
  overlong w = ltb v.room (length (name_at w))

  -- rule 55: a symlink that is not final, and its text
  abbrev pub inner_symlink : Position → Bool
  inner_symlink w = not (is_final w) && is_symlink v (target_at w)

  abbrev pub splice_text : Position → List ℕ
  splice_text w = v.text (v.field (target_at w))

  -- rule 57: its text and the unread rest are longer together than a path may be
  abbrev pub joined_overlong : Position → Bool
  joined_overlong w = ltb path_limit (length (splice_text w) + length (unread w))

-- rule 56: as many symlinks have been followed as a path may lead through
abbrev pub symlinks_spent : Position → Bool
symlinks_spent w = leb symlink_limit w.links

-- rule 53a: a final name that has to be portable, and is not
abbrev pub unportable : Final → Position → Bool
unportable last w = last.portable && is_final w && not (is_portable (name_at w))

-- A test, and how the component leaves the walk where that test is the first that holds.
pub record Guarded : Type 0 where
  pub test : Bool
  pub leaves : Step

infix 70 ◌⇒◌
abbrev pub ◌⇒◌ : Bool → Step → Guarded
test ⇒ leaves = record { test = test; leaves = leaves }

-- the first that holds decides; where none does, the component leaves the walk otherwise
infix 10 ◌otherwise◌
abbrev pub ◌otherwise◌ : List Guarded → Step → Step
[] otherwise x = x
(g ∷ gs) otherwise x = cond g.test g.leaves (gs otherwise x)

module _ (v : View) (who : Credentials) (last : Final) where
  unfoldable pub walk_step : Position → Step
  walk_step w =
      -- rule 50: what the component is to be read in is not a directory
      not (in_directory v w) ⇒ refused_by ENOTDIR w
      -- rule 51: search permission is denied
      ∷ search_denied v who w ⇒ refused_by EACCES w
      -- rule 52: it is longer than a name can be
      ∷ overlong v w ⇒ refused_by ENAMETOOLONG w
      -- rule 53: a final dot or dot-dot is refused; elsewhere the one stays and the other goes to the parent
      ∷ (is_final w && (is_dot (name_at w) || is_dot_dot (name_at w))) ⇒ refused_by EINVAL w
      ∷ is_dot (name_at w) ⇒ go_to w (unread w) w.directory
      ∷ is_dot_dot (name_at w) ⇒ go_to w (unread w) (v.field w.directory)
      -- rule 53a: a final name is not portable where it has to be, whether it is there or not
      ∷ unportable last w ⇒ refused_by EPERM w
      -- rule 54: a name that is missing and not final
      ∷ (is_missing v w && not (is_final w)) ⇒ refused_by ENOENT w
      -- rules 56, 57 and 55: a symlink that is not final is one too many, or joins to too long a path, or is replaced by its text
      ∷ (inner_symlink v w && symlinks_spent w) ⇒ refused_by ELOOP w
      ∷ (inner_symlink v w && joined_overlong v w) ⇒ refused_by ENAMETOOLONG w
      ∷ inner_symlink v w ⇒ splice w (splice_text v w) (unread w)
      -- any other name that is not final is gone into: rule 50 asks of the next component whether it is a directory
      ∷ not (is_final w) ⇒ go_to w (unread w) (target_at v w)
      -- rule 59: a final name that is missing is refused where it must exist; else it is what the path names
      ∷ (is_missing v w && last.present) ⇒ refused_by ENOENT w
      ∷ is_missing v w ⇒ names w (missing w.directory (name_at w) (slash_behind w))
      -- rule 60: a slash stands behind a final name that is not a directory
      ∷ (slash_behind w && not (at_directory v w)) ⇒ refused_by ENOTDIR w
      ∷ []
      -- rule 58: any other final name is what the path names: a symlink is not followed
      otherwise names w (existing w.directory (slot_at v w) (target_at v w) (slash_behind w))
