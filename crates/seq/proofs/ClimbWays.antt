-- A way to a goal is shorter than there are places, if it is the shortest. Assumes nothing.
use Rattle.std.specs.Prelude.{◌≡◌, ◌≢◌, Bool}
use Rattle.std.proofs.Math.Path.{sym, ap}
use Rattle.std.proofs.Common.{◌∙◌}
use Prim.Native.Nat.{ℕ, zero, suc, ◌+◌, ◌-◌, ◌≤◌, ◌<◌}
use Rattle.std.proofs.Math.Nat.{le_refl}
use native.Mathlib.Omega.{arith}
use Rattle.std.proofs.Math.Dec.{eqb}
use borrow.Author.Tests.{eqb-true, eq-eqb}
use Rattle.seq.specs.Search.{first}
use Rattle.seq.proofs.SearchLaws.{first_upto, first_passes}
use Rattle.seq.specs.Climb.{up}
use Rattle.seq.proofs.ClimbLaws.{pigeonhole, up_add}

-- Places below a limit, and steps that do not leave them.
module _ (In : ℕ → Type 0) (limit : ℕ) (below : (i : ℕ) → In i → i < limit) (f : ℕ → ℕ) (inside : (i : ℕ) → In i → In (f i)) where
  pub up_in : (n i : ℕ) → In i → In (up f n i)
  unfolding up
  up_in zero i h = h
  up_in (suc n) i h = up_in n (f i) (inside i h)

  -- a way to a goal has fewer steps than there are places, if it is the shortest
  pub short_way : (i goal k : ℕ) → In i → up f k i ≡ goal → (m : ℕ) × (m < limit) × (up f m i ≡ goal)
  short_way i goal k h e = (m, pigeonhole (λ n. up f n i) limit (suc m) (λ n _. below _ (up_in n i h)) apart, there)
    where
      at_goal : ℕ → Bool
      at_goal n = eqb (up f n i) goal

      m : ℕ
      m = first at_goal (suc k)

      least : (n : ℕ) → n < suc k → up f n i ≡ goal → m ≤ n
      least n l z = first_upto at_goal (suc k) n l (eq-eqb _ _ z)

      upto : m ≤ k
      upto = least k (le_refl (suc k)) e

      there : up f m i ≡ goal
      there = eqb-true _ _ (first_passes at_goal (suc k) (omega (arith, upto)))

      apart : (a b : ℕ) → a < b → b < suc m → up f a i ≢ up f b i
      apart a b l u z =
          let rest : b + (m - b) ≡ m = omega arith in
          let again : up f (a + (m - b)) i ≡ goal = up_add f a (m - b) i ∙ ap (up f (m - b)) z ∙ sym (up_add f b (m - b) i) ∙ rw rest there in
          omega (arith, least (a + (m - b)) (omega (arith, upto)) again)
