-- Counts of two tests that differ at a few numbers only, and what a count of 0 or 1 says. Assumes nothing.
use Rattle.std.specs.Prelude.{◌≡◌, refl, ◌≢◌, ◌⊎◌, Bool, true, false, ◌&&◌, not, cond, List, [], ◌∷◌, ℕ, zero, suc, ◌+◌, ◌≤◌, ◌<◌, eqb}
use Rattle.std.proofs.Common.{sym, ap, ap₂, ◌∙◌, inl, inr, le_refl, arith, eq-eqb, ne_eqb}
use Rattle.std.proofs.Math.Bool.{and-true, and-false}
use Rattle.std.proofs.Math.Decide.{ℕ_discrete, dec_le}
use Rattle.seq.specs.Search.{count}
use Rattle.seq.specs.Truth.{not_both}
use Rattle.seq.proofs.SearchLaws.{count_same}
use Rattle.seq.specs.Count.{bit, Off, On, Places, bits}

pub bit_le : (b : Bool) → bit b ≤ 1
bit_le true = omega arith
bit_le false = omega arith

count_next : (p : ℕ → Bool) (n : ℕ) → count p (suc n) ≡ count p n + bit (p n)
unfolding count
count_next p n = go (p n)
  where
    go : (b : Bool) → cond b (count p n + 1) (count p n) ≡ count p n + bit b
    go true = refl
    go false = omega arith

-- tests that differ at `a` alone
pub count_one : (p q : ℕ → Bool) (n a : ℕ) → a < n → ((j : ℕ) → j < n → j ≢ a → q j ≡ p j) → count q n + bit (p a) ≡ count p n + bit (q a)
count_one p q zero a l same = absurd (omega arith)
count_one p q (suc n) a l same = go (λ m. count_one p q n a m (λ j k. same j (omega arith))) (ℕ_discrete a n)
  where
    go : (a < n → count q n + bit (p a) ≡ count p n + bit (q a)) → Dec (a ≡ n) → count q (suc n) + bit (p a) ≡ count p (suc n) + bit (q a)
    go r (yes e) =
        let below : count q n ≡ count p n = count_same q p n (λ j k. same j (omega arith) (λ z. omega arith)) in
        omega (arith, count_next p n, count_next q n, ap (λ k. bit (p k)) e, ap (λ k. bit (q k)) e)
    go r (no e) = omega (arith, count_next p n, count_next q n, r (omega arith), ap bit (same n (le_refl (suc n)) (λ z. e (sym z))))

pub on_or_off : (j : ℕ) (bs : List ℕ) → On j bs ⊎ Off j bs
on_or_off j [] = inr tt
on_or_off j (a ∷ bs) = go (ℕ_discrete j a) (on_or_off j bs)
  where
    go : Dec (j ≡ a) → On j bs ⊎ Off j bs → On j (a ∷ bs) ⊎ Off j (a ∷ bs)
    go (yes e) r = inl (inl e)
    go (no n) (inl r) = inl (inr r)
    go (no n) (inr r) = inr (n, r)

bits_same : (p q : ℕ → Bool) (a : ℕ) (bs : List ℕ) → Off a bs → ((j : ℕ) → j ≢ a → q j ≡ p j) → bits q bs ≡ bits p bs
bits_same p q a [] off same = refl
bits_same p q a (b ∷ bs) (n, off) same = ap₂ (λ (x : Bool) (m : ℕ). bit x + m) (same b (λ e. n (sym e))) (bits_same p q a bs off same)

-- tests that differ at these places alone: whatever the tests are, the places make up the difference of the counts
pub count_edited : (p q : ℕ → Bool) (n : ℕ) (bs : List ℕ) → Places n bs → ((j : ℕ) → j < n → Off j bs → q j ≡ p j)
    → count q n + bits p bs ≡ count p n + bits q bs
count_edited p q n [] places same = ap (λ m. m + 0) (count_same q p n (λ j l. same j l tt))
count_edited p q n (a ∷ bs) (l, off, places) same =
    omega (arith, count_one p half n a l (λ j _. half_else j), ap bit half_here, bits_same p half a bs off half_else, count_edited half q n bs places rest)
  where
    half : ℕ → Bool
    half j = cond (eqb j a) (q j) (p j)

    half_here : half a ≡ q a
    half_here = rw (eq-eqb a a refl)

    half_else : (j : ℕ) → j ≢ a → half j ≡ p j
    half_else j m = rw (ne_eqb j a m)

    rest : (j : ℕ) → j < n → Off j bs → q j ≡ half j
    rest j k o = go (ℕ_discrete j a)
      where
        go : Dec (j ≡ a) → q j ≡ half j
        go (yes e) = rw (eq-eqb j a e)
        go (no e) = rw (ne_eqb j a e) (same j k (e, o))

-- the test p, but for k
without : (ℕ → Bool) → ℕ → ℕ → Bool
without p k j = p j && not (eqb j k)

without_here : (p : ℕ → Bool) (k : ℕ) → without p k k ≡ false
unfolding without
without_here p k = rw (eq-eqb k k refl) (and-false (p k))

without_else : (p : ℕ → Bool) (k j : ℕ) → j ≢ k → without p k j ≡ p j
unfolding without
without_else p k j n = rw (ne_eqb j k n) (and-true (p j))

module _ (p : ℕ → Bool) (n : ℕ) where
  count_without : (k : ℕ) → k < n → p k ≡ true → count p n ≡ count (without p k) n + 1
  count_without k l here =
      omega (arith, count_one p (without p k) n k l (λ j m. without_else p k j), ap bit here, ap bit (without_here p k))

  -- one that passes is counted
  count_at : (k : ℕ) → k < n → p k ≡ true → 1 ≤ count p n
  count_at k l here = omega (arith, count_without k l here)

  -- so a count of 0 says that none passes
  pub count_zero : count p n ≡ 0 → (k : ℕ) → k < n → p k ≡ true → ⊥
  count_zero e k l here = omega (arith, count_at k l here)

-- and a count of 1 that two that pass are the same
pub count_unique : (p : ℕ → Bool) (n : ℕ) → count p n ≡ 1 → (j k : ℕ) → j < n → k < n → p j ≡ true → p k ≡ true → j ≡ k
count_unique p n e j k lj lk hj hk = go (ℕ_discrete j k)
  where
    go : Dec (j ≡ k) → j ≡ k
    go (yes z) = z
    go (no z) =
        absurd (omega (arith, count_without p n j lj hj, count_at (without p j) n k lk (without_else p j k (λ y. z (sym y)) ∙ hk)))

-- a count that is not 0 has one that passes
pub count_some : (p : ℕ → Bool) (n : ℕ) → 1 ≤ count p n → (k : ℕ) × (k < n) × (p k ≡ true)
unfolding count
count_some p zero some = absurd (omega arith)
count_some p (suc n) some = go (λ m. count_some p n m) (p n) refl
  where
    go : (1 ≤ count p n → (k : ℕ) × (k < n) × (p k ≡ true)) → (b : Bool) → p n ≡ b → (k : ℕ) × (k < suc n) × (p k ≡ true)
    go r true e = (n, le_refl (suc n), e)
    go r false e = let (k, l, here) = r (omega (arith, count_next p n, ap bit e)) in (k, omega arith, here)

-- where none passes the count is 0
pub count_never : (p : ℕ → Bool) (n : ℕ) → ((k : ℕ) → k < n → p k ≡ false) → count p n ≡ 0
count_never p n none = go (dec_le 1 (count p n))
  where
    go : Dec (1 ≤ count p n) → count p n ≡ 0
    go (yes l) = let (k, m, here) = count_some p n l in absurd (not_both (p k) here (none k m))
    go (no l) = omega arith
