-- Callers whom permission does not tell apart. Assumes nothing.
use Rattle.std.specs.Prelude.{◌≡◌, ℕ, leb}
use Rattle.layout.specs.Limits.{group_limit}
use Rattle.paths.specs.declared.request.Credentials.{Credentials}
use Rattle.paths.specs.declared.request.Request.{Request}
use Rattle.paths.specs.Groups.{in_group}

-- The same user, in the same groups, with lists that are both short enough or both too long.
pub record Alike (a b : Credentials) : Type 0 where
  pub user : a.user ≡ b.user
  pub groups : (g : ℕ) → in_group a g ≡ in_group b g
  pub listed : leb a.count group_limit ≡ leb b.count group_limit

-- a request with another caller
abbrev pub asked_by : Request → Credentials → Request
asked_by q who = record { who = who; current = q.current; starts = q.starts; now = q.now; flags = q.flags }
