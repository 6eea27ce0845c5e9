-- What is asked of a component as decisions within decisions, one for each function of the code: `DecisionLaws` shows them to be `step`. Assumes nothing.
use Rattle.std.specs.Prelude.{Bool, ◌&&◌, ◌||◌, not, cond, List, ℕ, ◌+◌, ltb, leb, length}
use Rattle.layout.specs.Limits.{symlink_limit, path_limit}
use Rattle.layout.specs.Errno.{EPERM, EACCES, EINVAL, ELOOP, ENAMETOOLONG, ENOENT, ENOTDIR}
use Rattle.layout.specs.View.{View, is_directory, is_symlink}
use Rattle.paths.specs.declared.request.Credentials.{Credentials}
use Rattle.paths.specs.Path.{component, behind, empty, bare, is_dot, is_dot_dot}
use Rattle.paths.specs.Portable.{is_portable}
use Rattle.paths.specs.Permission.{search_bit, allows}
use Rattle.paths.specs.Lookup.{lookup}
use Rattle.component.specs.declared.state.Final.{Final}
use Rattle.component.specs.Step.{Position, existing, missing, Step, refused_by, names, go_to, splice}

-- rules 56 and 57: one symlink too many, and then a joined path that is too long
abbrev pub follow : Position → List ℕ → List ℕ → Step
follow w text rest =
    cond (leb symlink_limit w.links) (refused_by ELOOP w)
    (cond (ltb path_limit (length text + length rest)) (refused_by ENAMETOOLONG w) (splice w text rest))

-- rule 59: the final name is missing
abbrev pub lack : Final → Position → List ℕ → List ℕ → Step
lack last w name rest = cond last.present (refused_by ENOENT w) (names w (missing w.directory name (not (empty rest))))

-- rule 54: a name that is missing ahead of others
abbrev pub miss : Final → Position → List ℕ → List ℕ → Step
miss last w name rest = cond (not (bare rest)) (refused_by ENOENT w) (lack last w name rest)

-- rule 53a: a final name that has to be portable, and is not
abbrev pub barred : Final → List ℕ → List ℕ → Bool
barred last name rest = last.portable && bare rest && not (is_portable name)

module _ (v : View) where
  -- a name ahead of others: a symlink is followed, anything else is gone into
  abbrev pub enter : Position → List ℕ → ℕ → Step
  enter w rest i = cond (is_symlink v i) (follow w (v.text (v.field i)) rest) (go_to w rest i)

  -- rules 58 and 60: the final name exists; a slash behind it asks for a directory, and a symlink is not followed
  abbrev pub arrive : Position → List ℕ → ℕ → Step
  arrive w rest j =
      cond (not (empty rest) && not (is_directory v (v.target j))) (refused_by ENOTDIR w)
      (names w (existing w.directory j (v.target j) (not (empty rest))))

  -- the name is in slot j
  abbrev pub hit : Position → List ℕ → ℕ → Step
  hit w rest j = cond (not (bare rest)) (enter w rest (v.target j)) (arrive w rest j)

  -- the name is looked up
  abbrev pub seek : Final → Position → List ℕ → List ℕ → Step
  seek last w name rest =
      cond (ltb (lookup v w.directory name) v.entries) (hit w rest (lookup v w.directory name)) (miss last w name rest)

  -- rule 53a: a name that has to be portable and is not is not looked up
  abbrev pub named : Final → Position → List ℕ → List ℕ → Step
  named last w name rest = cond (barred last name rest) (refused_by EPERM w) (seek last w name rest)

  -- rule 53: a final dot or dot-dot is refused; else the one stays and the other goes up
  abbrev pub dots : Position → List ℕ → List ℕ → Step
  dots w name rest =
      cond (bare rest) (refused_by EINVAL w) (go_to w rest (cond (is_dot name) w.directory (v.field w.directory)))

  -- rule 52: a component that is longer than any name
  abbrev pub read : Final → Position → List ℕ → List ℕ → Step
  read last w name rest =
      cond (ltb v.room (length name)) (refused_by ENAMETOOLONG w)
      (cond (is_dot name || is_dot_dot name) (dots w name rest) (named last w name rest))

module _ (v : View) (who : Credentials) (last : Final) where
  -- rule 51: search permission on the directory, asked of every component that it is not waived for
  abbrev pub inside : Position → Step
  inside w =
      cond (not (w.waived || allows v who w.directory search_bit)) (refused_by EACCES w)
      (read v last w (component w.rest) (behind w.rest))

  -- rule 50: a component is read in a directory
  abbrev pub decision : Position → Step
  decision w = cond (not (is_directory v w.directory)) (refused_by ENOTDIR w) (inside w)
