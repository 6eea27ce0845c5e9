-- What is known where a walk has ended: an entry that holds the name in a directory, or a good name that the directory lacks. Assumes nothing.
use Rattle.std.specs.Prelude.{◌≡◌, ◌≢◌, Bool, true, false, ◌||◌, List, ℕ, ◌≤◌, ◌<◌, eqb, length}
use Rattle.layout.specs.View.{View, entry_used, is_directory}
use Rattle.names.specs.NameTests.{name_good}
use Rattle.paths.specs.Portable.{is_portable}
use Rattle.paths.specs.Lookup.{lookup}
use Rattle.component.specs.declared.state.Final.{Final}
use Rattle.component.specs.Step.{Finding, existing, missing, nothing, End}
use Rattle.component.specs.Ways.{component_number}
use Rattle.walk.specs.Walk.{halt_number}

-- A path that names inode i by the entry in slot j of directory d; it may end in a slash only if that is a directory.
pub record Existing (v : View) (d j i : ℕ) (slash : Bool) : Type 0 where
  pub directory : is_directory v d ≡ true
  pub below : j < v.entries
  pub used : entry_used v j ≡ true
  pub parent : v.parent j ≡ d
  pub found : lookup v d (v.name j) ≡ j
  pub target : v.target j ≡ i
  pub slashed : slash ≡ true → is_directory v i ≡ true

-- A path whose last name directory d lacks: it has room in an entry, is a name that an entry may have (rules 24 to 26), and portable where it has to be.
pub record Missing (v : View) (last : Final) (d : ℕ) (name : List ℕ) : Type 0 where
  pub may : last.present ≡ false
  pub portable : last.portable ≡ true → is_portable name ≡ true
  pub directory : is_directory v d ≡ true
  pub lacks : lookup v d name ≡ v.entries
  pub some : 1 ≤ length name
  pub short : length name ≤ v.room
  pub good : name_good name ≡ true

-- what is known of what a path names
abbrev pub Known : View → Final → Finding → Type 0
Known v last (existing d j i slash) = Existing v d j i slash
Known v last (missing d name slash) = Missing v last d name
Known v last nothing = Unit {0}

-- the number is 0 exactly where the path names something
abbrev pub Numbered : ℕ → Finding → Type 0
Numbered n (existing d j i slash) = n ≡ 0
Numbered n (missing d name slash) = n ≡ 0
Numbered n nothing = n ≢ 0

-- the numbers that a walk is answered with
abbrev pub walk_number : ℕ → Bool
walk_number n = eqb n 0 || halt_number n || component_number n

pub record Facts (v : View) (last : Final) (e : End) : Type 0 where
  pub known : Known v last e.found
  pub numbered : Numbered e.number e.found
  pub listed : walk_number e.number ≡ true
