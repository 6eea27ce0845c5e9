-- The walk of a whole path: where it begins, and component after component to its end (rules 41 and 46 to 49). A reader has to believe this file. Assumes
-- nothing.
use Rattle.std.specs.Prelude.{Bool, false, ◌&&◌, ◌||◌, cond, List, ℕ, zero, suc, eqb, ltb, length}
use Rattle.layout.specs.Limits.{path_limit, step_limit, no_handle}
use Rattle.layout.specs.Errno.{EBADF, EBUSY, ELOOP, ENAMETOOLONG, ENOENT}
use Rattle.layout.specs.View.{View, handle_open}
use Rattle.paths.specs.declared.request.Credentials.{Credentials}
use Rattle.paths.specs.Path.{empty, bare, absolute}
use Rattle.component.specs.declared.state.Final.{Final}
use Rattle.component.specs.Step.{Position, End, nothing, goes, ends, walk_step}
use Rattle.walk.specs.Start.{Start, Closed, At}

-- the numbers that a path is refused by before its walk begins
abbrev pub halt_number : ℕ → Bool
halt_number n = eqb n ENOENT || eqb n ENAMETOOLONG || eqb n EBADF || eqb n EBUSY

-- a path that no walk begins on
abbrev pub halt : ℕ → End
halt n = record { number = n; steps = 0; found = nothing }

module _ (v : View) where
  -- rules 48 and 51: a handle that is open, and waives search permission for one component where it was opened for search
  abbrev pub start_handle : ℕ → Start
  start_handle n = cond (ltb n v.handles && handle_open v n) (At (v.opened n) (eqb (v.state n) 2)) Closed

  -- rule 41: the root for an absolute path; else the current directory, or what a handle is open on
  abbrev pub start_of : ℕ → ℕ → List ℕ → Start
  start_of current start path = cond (absolute path) (At 0 false) (cond (eqb start no_handle) (At current false) (start_handle start))

-- the position in which the walk of a path begins
abbrev pub start_at : ℕ → Bool → List ℕ → Position
start_at directory waived path = record { rest = path; directory = directory; links = 0; steps = 0; waived = waived }

module _ (v : View) (who : Credentials) (last : Final) where
  -- as many components as there are, up to a number of them that is never reached (see Bound)
  unfoldable pub walk_from : ℕ → Position → End
  walk_from zero w = record { number = ELOOP; steps = w.steps; found = nothing }
  walk_from (suc n) w = elim (walk_step v who last w) [ goes u ↦ walk_from n u | ends e ↦ e ]

  -- rules 48 and 49: a handle that is closed, and then a path of slashes only
  abbrev pub begun : Start → List ℕ → End
  begun Closed path = halt EBADF
  begun (At directory waived) path = cond (bare path) (halt EBUSY) (walk_from step_limit (start_at directory waived path))

  -- rules 46 and 47: the walk of a path from the current directory and a start
  unfoldable pub walk : ℕ → ℕ → List ℕ → End
  walk current start path =
      cond (empty path) (halt ENOENT) (cond (ltb path_limit (length path)) (halt ENAMETOOLONG) (begun (start_of v current start path) path))
