-- A whole plan without a crash: every permitted order gives the image after. Assumes nothing.
use Rattle.std.specs.Prelude.{◌≡◌, false, [], ◌∷◌}
use Rattle.crash_theorem.specs.Pick.{here}
use Rattle.crash_theorem.proofs.TurnLaws.{lowest_low, low_lowest}
use Rattle.crash_theorem.specs.Store.{Store, Rows, put_all}
use Rattle.crash_theorem.specs.Change.{Change, plan}
use Rattle.crash_theorem.specs.Events.{own, St}
use Rattle.crash_theorem.specs.Obligations.{Orderly}
use Rattle.crash_theorem.specs.Invariant.{Holds}
use Rattle.crash_theorem.proofs.InvariantLaws.{whole, took_inv, start_inv}
use Rattle.crash_theorem.specs.Order.{Permitted, Sorted, end, next}

module _ (𝓢 : Store) where
  pub sorted_permitted : (rs : Rows 𝓢) → Sorted 𝓢 rs → Permitted 𝓢 rs rs
  sorted_permitted [] h = end
  sorted_permitted (r ∷ rs) h = next here (low_lowest 𝓢.group r rs h.0) (sorted_permitted rs h.1)

module _ {𝓢 : Store} (𝓒 : Change 𝓢) (𝓞 : Orderly 𝓒) where
  from_here : {log W rs : Rows 𝓢} {X : 𝓢.Img} → Permitted 𝓢 W rs → Holds 𝓒 own log false X W → put_all 𝓢 X rs ≡ 𝓒.after
  from_here end h = (whole 𝓒 𝓞 own [] tt h).1
  from_here {log} {X = X} (next {r} {W} {W'} p t o) h =
      let s : St 𝓒 = record { img = X; waiting = W; phase = own; applied = log; done = false } in
      from_here {log = r ∷ log} o (took_inv 𝓒 𝓞 s (r, W', p) (lowest_low 𝓢.group r W' t) h)

  -- any permitted order of the whole plan gives the image after
  pub any_order : {rs : Rows 𝓢} → Permitted 𝓢 (plan 𝓒) rs → put_all 𝓢 𝓒.before rs ≡ 𝓒.after
  any_order o = from_here o (start_inv 𝓒 𝓞)
