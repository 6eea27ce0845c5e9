-- Laws of searches: one turn of a loop that counts up, and what a search has found. Assumes nothing.
use Rattle.std.specs.Prelude.{◌≡◌, ◌⊎◌, Bool, not}
use Rattle.std.proofs.Math.Path.{refl, ap₂}
use Rattle.std.proofs.Common.{sym, ap, ◌∙◌, eq-or-lt_of_le, not-suc-le-zero, le_of_suc-le-suc, lt_of_not-le, add-one}
use Rattle.std.proofs.Math.Logic.{inl, inr, ⊎_elim}
use Rattle.std.proofs.Math.Bool.{true, false, ◌&&◌, ◌||◌, cond, or-true, and-false}
use Rattle.std.proofs.lemmas.Bool.{false≢true}
use Prim.Native.Nat.{ℕ, zero, suc, ◌+◌, ◌<◌, ◌≤◌}
use Rattle.std.proofs.Math.Nat.{le_refl}
use native.Mathlib.Omega.{arith}
use Rattle.seq.specs.Search.{all, any, count, first}
use Rattle.seq.specs.Truth.{and_left, and_right, and_both, not_both, fails, holds}

-- a number below suc n is n, or below n
last_or_below : {A : Type 0} (n k : ℕ) → k < suc n → (k ≡ n → A) → (k < n → A) → A
last_or_below n k below f g = ⊎_elim f g (eq-or-lt_of_le (le_of_suc-le-suc below))

module _ (p : ℕ → Bool) where
  pub any_none : any p 0 ≡ false
  unfolding any
  any_none = refl

  -- a turn that did not find
  pub any_miss : (n : ℕ) → any p n ≡ false → p n ≡ false → any p (n + 1) ≡ false
  unfolding any
  any_miss n before here = rw (add-one, before, here)

  -- a turn that found
  pub any_hit : (n k : ℕ) → k < n → p k ≡ true → any p n ≡ true
  unfolding any
  any_hit zero k below here = absurd (not-suc-le-zero below)
  any_hit (suc n) k below here =
      last_or_below n k below (λ e. rw (← e, here, or-true)) (λ l. rw (any_hit n k l here))

  any_front : (n : ℕ) → any p (suc n) ≡ false → any p n ≡ false
  unfolding any
  any_front n h = go (any p n) (p n) h
    where
      go : (a b : Bool) → (a || b) ≡ false → a ≡ false
      go true b e = e
      go false b e = refl

  any_last : (n : ℕ) → any p (suc n) ≡ false → p n ≡ false
  unfolding any
  any_last n h = go (any p n) (p n) h
    where
      go : (a b : Bool) → (a || b) ≡ false → b ≡ false
      go true b e = absurd (false≢true (sym e))
      go false b e = e

  -- none passes, read at one number
  pub any_not : (n : ℕ) → any p n ≡ false → (k : ℕ) → k < n → p k ≡ false
  any_not zero none k below = absurd (not-suc-le-zero below)
  any_not (suc n) none k below =
      last_or_below n k below (λ e. rw e (any_last n none)) (λ l. any_not n (any_front n none) k l)

  pub any_false : (n : ℕ) → ((k : ℕ) → k < n → p k ≡ false) → any p n ≡ false
  unfolding any
  any_false zero f = refl
  any_false (suc n) f = rw (any_false n (λ k l. f k (omega arith)), f n (le_refl (suc n)))

  -- some number passes, and here it is
  pub any_at : (n : ℕ) → any p n ≡ true → (k : ℕ) × (k < n) × (p k ≡ true)
  unfolding any
  any_at zero some = absurd (false≢true some)
  any_at (suc n) some = go (λ e. any_at n e) (any p n) (p n) refl refl some
    where
      go : (any p n ≡ true → (k : ℕ) × (k < n) × (p k ≡ true)) → (a b : Bool) → any p n ≡ a → p n ≡ b → (a || b) ≡ true
          → (k : ℕ) × (k < suc n) × (p k ≡ true)
      go r true b ea eb h = let (k, l, e) = r ea in (k, omega arith, e)
      go r false true ea eb h = (n, le_refl (suc n), eb)
      go r false false ea eb h = absurd (false≢true h)

  pub all_none : all p 0 ≡ true
  unfolding all
  all_none = refl

  pub all_more : (n : ℕ) → all p n ≡ true → p n ≡ true → all p (n + 1) ≡ true
  unfolding all
  all_more n before here = rw (add-one, before, here)

  pub all_not : (n k : ℕ) → k < n → p k ≡ false → all p n ≡ false
  unfolding all
  all_not zero k below here = absurd (not-suc-le-zero below)
  all_not (suc n) k below here =
      last_or_below n k below (λ e. rw (← e, here, and-false)) (λ l. rw (all_not n k l here))

  -- every number passes, read at one number and made from all
  pub all_at : (n : ℕ) → all p n ≡ true → (k : ℕ) → k < n → p k ≡ true
  unfolding all
  all_at zero h k below = absurd (not-suc-le-zero below)
  all_at (suc n) h k below =
      last_or_below n k below (λ e. rw e (and_right (all p n) (p n) h)) (λ l. all_at n (and_left (all p n) (p n) h) k l)

  pub all_of : (n : ℕ) → ((k : ℕ) → k < n → p k ≡ true) → all p n ≡ true
  unfolding all
  all_of zero f = refl
  all_of (suc n) f = and_both (all p n) (p n) (all_of n (λ k l. f k (omega arith))) (f n (le_refl (suc n)))

  pub count_none : count p 0 ≡ 0
  unfolding count
  count_none = refl

  pub count_hit : (n : ℕ) → p n ≡ true → count p (n + 1) ≡ count p n + 1
  unfolding count
  count_hit n here = rw (add-one, here)

  pub count_miss : (n : ℕ) → p n ≡ false → count p (n + 1) ≡ count p n
  unfolding count
  count_miss n here = rw (add-one, here)

  pub count_le : (n : ℕ) → count p n ≤ n
  unfolding count
  count_le zero = omega arith
  count_le (suc n) = go (p n) (count_le n)
    where
      go : (b : Bool) → count p n ≤ n → cond b (count p n + 1) (count p n) ≤ suc n
      go true h = omega arith
      go false h = omega arith

  pub first_hit : (n k : ℕ) → k < n → any p k ≡ false → p k ≡ true → first p n ≡ k
  unfolding first
  first_hit zero k below none here = absurd (not-suc-le-zero below)
  first_hit (suc n) k below none here =
      last_or_below n k below (λ e. rw (← e, none, here)) (λ l. rw (any_hit n k l here) (first_hit n k l none here))

  pub first_none : (n : ℕ) → any p n ≡ false → first p n ≡ n
  unfolding first
  first_none zero none = refl
  first_none (suc n) none = rw (any_front n none, any_last n none)

  -- of a search for the first: none passes, or it is one that passes and none below it does
  abbrev pub First : ℕ → Type 0
  First n = ((any p n ≡ false) × (first p n ≡ n)) ⊎ ((first p n < n) × (any p (first p n) ≡ false) × (p (first p n) ≡ true))

  pub first_cases : (n : ℕ) → First n
  unfolding any first
  first_cases zero = inl (refl, refl)
  first_cases (suc n) = ⊎_elim (λ none. here (p n) refl none.0) (λ hit. below hit.0 hit.1 hit.2) (first_cases n)
    where
      here : (b : Bool) → p n ≡ b → any p n ≡ false → First (suc n)
      here true e none = inr (rw (none, e) (le_refl (suc n)), rw (none, e) none, rw (none, e) e)
      here false e none = inl (rw (none, e), rw (none, e))

      below : first p n < n → any p (first p n) ≡ false → p (first p n) ≡ true → First (suc n)
      below l none e =
          let some : any p n ≡ true = any_hit n (first p n) l e in
          inr (rw some (omega arith), rw some none, rw some e)

  pub first_le : (n : ℕ) → first p n ≤ n
  first_le n = ⊎_elim (λ none. let e = none.1 in omega arith) (λ hit. let l = hit.0 in omega arith) (first_cases n)

  pub first_passes : (n : ℕ) → first p n < n → p (first p n) ≡ true
  first_passes n l = ⊎_elim (λ none. let e = none.1 in absurd (omega arith)) (λ hit. hit.2) (first_cases n)

  -- it comes no later than any that passes
  pub first_upto : (n k : ℕ) → k < n → p k ≡ true → first p n ≤ k
  first_upto n k l here =
      ⊎_elim (λ none. absurd (not_both (p k) here (any_not n none.0 k l)))
      (λ hit. le_of_suc-le-suc (lt_of_not-le (λ low. not_both (p k) here (any_not (first p n) hit.1 k low))))
      (first_cases n)

  -- and none before it passes
  pub first_before : (n k : ℕ) → k < first p n → p k ≡ false
  first_before n k l = go (p k) refl
    where
      go : (b : Bool) → p k ≡ b → b ≡ false
      go true e = let u = first_upto n k (omega (arith, first_le n)) e in absurd (omega arith)
      go false e = refl

-- A loop over the numbers below n that stands at k, where a call answered b for the test of k: its turns, and its ways out.
module _ (p : ℕ → Bool) (n k : ℕ) {b : Bool} where
  pub any_turn : k < n → any p k ≡ false → b ≡ p k → b ≡ false → (k + 1 ≤ n) × (any p (k + 1) ≡ false)
  any_turn below none says miss = (omega arith, any_miss p k none (sym says ∙ miss))

  pub any_found : k < n → b ≡ p k → b ≡ true → true ≡ any p n
  any_found below says hit = sym (any_hit p n k below (sym says ∙ hit))

  pub all_turn : k < n → all p k ≡ true → b ≡ p k → not b ≡ false → (k + 1 ≤ n) × (all p (k + 1) ≡ true)
  all_turn below every says pass = (omega arith, all_more p k every (holds says pass))

  pub all_failed : k < n → b ≡ p k → not b ≡ true → false ≡ all p n
  all_failed below says fail = sym (all_not p n k below (fails says fail))

  -- found counts those before k, and next those before k + 1
  module _ (found next : ℕ) (below : k < n) (most : found ≤ k) (counted : found ≡ count p k) (says : b ≡ p k) where
    pub count_turn : b ≡ true → next ≡ found + 1 → (k + 1 ≤ n) × (next ≤ k + 1) × (next ≡ count p (k + 1))
    count_turn hit e = (omega arith, omega arith, e ∙ ap (λ m. m + 1) counted ∙ sym (count_hit p k (sym says ∙ hit)))

    pub count_pass : b ≡ false → next ≡ found → (k + 1 ≤ n) × (next ≤ k + 1) × (next ≡ count p (k + 1))
    count_pass miss e = (omega arith, omega arith, e ∙ counted ∙ sym (count_miss p k (sym says ∙ miss)))

-- it has been through all of them
module _ (p : ℕ → Bool) (n k : ℕ) (upto : k ≤ n) (done : n ≤ k) where
  ended : k ≡ n
  ended = omega arith

  pub any_out : any p k ≡ false → false ≡ any p n
  any_out none = sym (rw ended at none)

  pub all_out : all p k ≡ true → true ≡ all p n
  all_out every = sym (rw ended at every)

  pub first_out : any p k ≡ false → k ≡ first p n
  first_out none = ended ∙ sym (first_none p n (rw ended at none))

  pub count_out : (found : ℕ) → found ≡ count p k → found ≡ count p n
  count_out found counted = rw ended at counted

-- tests that agree below n give the same search
module _ (p q : ℕ → Bool) where
  pub all_same : (n : ℕ) → ((k : ℕ) → k < n → p k ≡ q k) → all p n ≡ all q n
  unfolding all
  all_same zero f = refl
  all_same (suc n) f = ap₂ ◌&&◌ (all_same n (λ k l. f k (omega arith))) (f n (le_refl (suc n)))

  pub any_same : (n : ℕ) → ((k : ℕ) → k < n → p k ≡ q k) → any p n ≡ any q n
  unfolding any
  any_same zero f = refl
  any_same (suc n) f = ap₂ ◌||◌ (any_same n (λ k l. f k (omega arith))) (f n (le_refl (suc n)))

  pub count_same : (n : ℕ) → ((k : ℕ) → k < n → p k ≡ q k) → count p n ≡ count q n
  unfolding count
  count_same zero f = refl
  count_same (suc n) f =
      ap₂ (λ (b : Bool) (m : ℕ). cond b (m + 1) m) (f n (le_refl (suc n))) (count_same n (λ k l. f k (omega arith)))

  pub first_same : (n : ℕ) → ((k : ℕ) → k < n → p k ≡ q k) → first p n ≡ first q n
  unfolding first
  first_same zero f = refl
  first_same (suc n) f =
      rw (any_same n (λ k l. f k (omega arith)), f n (le_refl (suc n)), first_same n (λ k l. f k (omega arith)))
