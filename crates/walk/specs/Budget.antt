-- What one step changes, what a walk can still spend, and where its steps lead: the terms in which its bound is shown. Assumes nothing.
use Rattle.std.specs.Prelude.{◌≡◌, ◌⊎◌, false, ℕ, ◌+◌, ◌*◌, ◌-◌, ◌/◌, ◌≤◌, ◌<◌, length}
use Rattle.layout.specs.Limits.{symlink_limit, path_limit, path_components, step_limit}
use Rattle.layout.specs.View.{View}
use Rattle.paths.specs.declared.request.Credentials.{Credentials}
use Rattle.paths.specs.Path.{skip, behind, bare}
use Rattle.component.specs.declared.state.Final.{Final}
use Rattle.component.specs.Step.{Position, End, Step, goes, ends, walk_step}

-- A step that goes on from w to u: the component counts, another is left, and either u is behind the component just read, or one more
-- symlink, which was not one too many, has led into a path of its own.
pub record Goes (w u : Position) : Type 0 where
  pub more : bare u.rest ≡ false
  pub counted : u.steps ≡ w.steps + 1
  pub way : ((u.links ≡ w.links) × (u.rest ≡ behind w.rest))
      ⊎ ((u.links ≡ w.links + 1) × (w.links < symlink_limit) × (length u.rest ≤ path_limit))

-- what holds after a step: the component counts where the walk ends, too
abbrev pub After : Position → Step → Type 0
After w (goes u) = Goes w u
After w (ends e) = e.steps ≡ w.steps + 1

-- What a walk can still spend: as many components as a path can have for each symlink that it may yet follow, and those of the path in
-- hand, each of which has a byte and, but for the last, a slash.
unfoldable pub budget : Position → ℕ
budget w = path_components * (symlink_limit - w.links) + (length (skip w.rest) + 1) / 2

-- A position that a walk may stand at: a component is left, the limits are kept, and what was spent and what can be is no more than the
-- bound. It holds where a walk begins and from step to step.
pub record Ready (w : Position) : Type 0 where
  pub more : bare w.rest ≡ false
  pub few : w.links ≤ symlink_limit
  pub short : length w.rest ≤ path_limit
  pub within : w.steps + budget w ≤ step_limit

-- Where the steps from a position lead, with no fuel: the end of the step that ends, through those that go on.
pub data Leads (v : View) (who : Credentials) (last : Final) : Position → End → Type 0 where
  ending : {w : Position} {e : End} → walk_step v who last w ≡ ends e → Leads v who last w e
  going : {w u : Position} {e : End} → walk_step v who last w ≡ goes u → Leads v who last u e → Leads v who last w e
