-- No walk begins more component checks than the bound (rule 61). Assumes nothing.
use Rattle.std.specs.Prelude.{◌≡◌, Bool, List, length}
use Rattle.std.proofs.Math.Path.{refl}
use Rattle.std.proofs.Common.{le_trans, zero-add}
use Rattle.std.proofs.Math.Bool.{false}
use Prim.Native.Nat.{ℕ, ◌≤◌, ◌<◌, zero-le}
use Rattle.layout.specs.Limits.{symlink_limit, path_limit, step_limit}
use Rattle.layout.specs.View.{View}
use Rattle.paths.specs.declared.request.Credentials.{Credentials}
use Rattle.paths.specs.Path.{bare}
use Rattle.paths.proofs.PathLaws.{skip_le}
use Rattle.component.specs.declared.state.Final.{Final}
use Rattle.component.specs.Step.{Position}
use Rattle.walk.specs.Walk.{start_at, walk_from, walk}
use Rattle.walk.proofs.WalkLaws.{by_walk}
use Rattle.walk.specs.Budget.{budget, Ready, Leads}
use Rattle.walk.proofs.Bound.{spend_most, ready_budget, leads, led, leads_count, spends}

pub ready_new : (w : Position) → bare w.rest ≡ false → length w.rest ≤ path_limit → w.links ≡ 0 → w.steps ≡ 0 → Ready w
unfolding budget
ready_new w more short none unread = record {
  more = more;
  few = rw none zero-le;
  short = short;
  within = rw (unread, zero-add) (spend_most symlink_limit w.links _ (le_trans (skip_le w.rest) short));
}

module _ (v : View) (who : Credentials) (last : Final) where
  -- a path that a walk begins on
  module _ (directory : ℕ) (waived : Bool) (path : List ℕ) (short : length path ≤ path_limit) (more : bare path ≡ false) where
    abbrev begin : Position
    begin = start_at directory waived path

    ready : Ready begin
    ready = ready_new begin more short refl refl

    pub start_leads : Leads v who last begin (walk_from v who last step_limit begin)
    start_leads = leads v who last step_limit begin more (ready_budget begin ready)

    -- its end is the same whatever the fuel from the bound on: the clause for no fuel is never what it ends by
    pub walk_fuel : (n : ℕ) → step_limit ≤ n → walk_from v who last n begin ≡ walk_from v who last step_limit begin
    walk_fuel n enough = led v who last n start_leads more (le_trans (ready_budget begin ready) enough)

    -- a walk that begins counts
    pub walk_counts : 0 < (walk_from v who last step_limit begin).steps
    walk_counts = leads_count v who last start_leads

    start_bound : (walk_from v who last step_limit begin).steps ≤ step_limit
    start_bound = le_trans (spends v who last start_leads more) ready.within

  -- rule 61: no walk begins more component checks than that
  pub walk_bound : (current start : ℕ) (path : List ℕ) → (walk v who last current start path).steps ≤ step_limit
  walk_bound current start path =
      by_walk v who last (λ e. e.steps ≤ step_limit) path (λ n some. zero-le)
      (λ short more directory waived. start_bound directory waived path short more) current start
