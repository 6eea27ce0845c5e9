-- Buffers that are long enough for recovery, and buffers that are not. Assumes nothing.
use Rattle.std.specs.Prelude.{◌≡◌, refl, ◌⊎◌, Bool, not, ◌&&◌, List, ℕ, ◌≤◌, ◌<◌, T}
use Rattle.std.proofs.Math.Logic.{inl, inr}
use Rattle.std.proofs.Math.Bool.{true, false}
use Rattle.std.proofs.Math.Dec.{leb}
use Rattle.std.proofs.Math.ListN.{length}
use borrow.Author.Tests.{leb-true, leb-false, le-leb, not-true}
use Rattle.seq.specs.Truth.{to_t, of_t, and_left, and_right, and_both}
use Rattle.plan.specs.Form.{plan_bytes}
use Rattle.image_store.specs.Buffers.{Buffers, enough}

module _ (b : Buffers) (s : List ℕ) where
  pub enough_is : T (enough b s) → (plan_bytes ≤ length b.plan) × (length s ≤ length b.scratch)
  unfolding enough
  enough_is t =
      let e = of_t (enough b s) t in
      let plan = leb plan_bytes (length b.plan) in
      (leb-true _ _ (and_left plan _ e), leb-true _ _ (and_right plan _ e))

  pub is_enough : plan_bytes ≤ length b.plan → length s ≤ length b.scratch → T (enough b s)
  unfolding enough
  is_enough l m = to_t (enough b s) (and_both (leb plan_bytes (length b.plan)) _ (le-leb _ _ l) (le-leb _ _ m))

  pub too_short : T (not (enough b s)) → (length b.plan < plan_bytes) ⊎ (length b.scratch < length s)
  unfolding enough
  too_short t = go (leb plan_bytes (length b.plan)) (λ e. leb-false _ _ e) (not-true (enough b s) (of_t (not (enough b s)) t))
    where
      go : (e : Bool) → (e ≡ false → length b.plan < plan_bytes) → (e && leb (length s) (length b.scratch)) ≡ false
          → (length b.plan < plan_bytes) ⊎ (length b.scratch < length s)
      go true f h = inr (leb-false _ _ h)
      go false f h = inl (f refl)
