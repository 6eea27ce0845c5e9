-- What each state picks of the tests of a handle. Assumes nothing.
use Rattle.std.specs.Prelude.{◌≡◌, Bool, false, ℕ, ◌≤◌, ◌<◌}
use Rattle.std.proofs.Math.Decide.{dec_lt}
use Rattle.std.proofs.Common.{arith, ne_eqb}
use Rattle.consistency.specs.Others.{by_state}

-- what each state picks
module _ (k : ℕ) (closed opened : Bool) where
  pub state_closed : k ≡ 0 → by_state k closed opened ≡ closed
  state_closed e = simp e

  pub state_open : (k ≡ 0 → ⊥) → k < 3 → by_state k closed opened ≡ opened
  state_open a l = go (dec_lt k 2)
    where
      go : Dec (k < 2) → by_state k closed opened ≡ opened
      go (yes m) = let e : k ≡ 1 = omega arith in simp e
      go (no m) = let e : k ≡ 2 = omega arith in simp e

  pub state_none : 3 ≤ k → by_state k closed opened ≡ false
  state_none l = simp (ne_eqb k 0 (λ e. omega arith), ne_eqb k 1 (λ e. omega arith), ne_eqb k 2 (λ e. omega arith))
