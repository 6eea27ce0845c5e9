-- Laws of zero bytes: ranges of them, and the number that they are read as. Assumes nothing.
use Rattle.std.specs.Prelude.{◌≡◌, refl, Bool, true, false, ◌&&◌, List, ℕ, zero, suc, ◌+◌, ◌*◌, ◌-◌, ◌<◌, eqb, get_or}
use Rattle.std.proofs.Common.{sym, ap, ◌∙◌, arith, eq-eqb, ne_eqb}
use Rattle.std.proofs.Math.Bool.{and-false}
use Rattle.std.proofs.Math.Decide.{ℕ_discrete, dec_lt}
use Rattle.seq.specs.Bytes.{zeros}
use Rattle.seq.specs.Number.{number_at}
use Rattle.seq.specs.Search.{all}
use Rattle.seq.proofs.SearchLaws.{all_at, all_of}
use Rattle.seq.specs.Truth.{one_truth, and_left, and_right, and_both}

-- zeros, and further zeros behind them
pub zeros_split : (xs : List ℕ) (at m n : ℕ) → zeros xs at (m + n) ≡ (zeros xs at m && zeros xs (at + m) n)
unfolding zeros
zeros_split xs at m n = one_truth _ _ to from
  where
    zero_at : ℕ → ℕ → Bool
    zero_at i k = eqb (get_or xs (i + k) 0) 0

    to : all (zero_at at) (m + n) ≡ true → (all (zero_at at) m && all (zero_at (at + m)) n) ≡ true
    to e =
        and_both _ _ (all_of _ m (λ k l. all_at (zero_at at) (m + n) e k (omega arith)))
        (all_of _ n (λ k l. let o : at + m + k ≡ at + (m + k) = omega arith in rw o (all_at (zero_at at) (m + n) e (m + k) (omega arith))))

    from : (all (zero_at at) m && all (zero_at (at + m)) n) ≡ true → all (zero_at at) (m + n) ≡ true
    from e = all_of _ (m + n) (λ k l. go k l (dec_lt k m))
      where
        go : (k : ℕ) → k < m + n → Dec (k < m) → zero_at at k ≡ true
        go k l (yes b) = all_at (zero_at at) m (and_left (all (zero_at at) m) _ e) k b
        go k l (no b) =
            let o : at + m + (k - m) ≡ at + k = omega arith in
            rw o at (all_at (zero_at (at + m)) n (and_right (all (zero_at at) m) _ e) (k - m) (omega arith))

-- a number is 0 where all its bytes are
sum_zero : (b r : ℕ) → eqb (b + 256 * r) 0 ≡ (eqb b 0 && eqb r 0)
sum_zero b r = go (ℕ_discrete b 0) (ℕ_discrete r 0)
  where
    go : Dec (b ≡ 0) → Dec (r ≡ 0) → eqb (b + 256 * r) 0 ≡ (eqb b 0 && eqb r 0)
    go (yes x) (yes y) = rw (x, y)
    go (yes x) (no y) = rw (eq-eqb b 0 x, ne_eqb r 0 y) (ne_eqb (b + 256 * r) 0 (λ z. y (omega arith)))
    go (no x) y = rw (ne_eqb b 0 x) (ne_eqb (b + 256 * r) 0 (λ z. x (omega arith)))

pub number_zero : (k : ℕ) (xs : List ℕ) (i : ℕ) → eqb (number_at k xs i) 0 ≡ zeros xs i k
unfolding number_at zeros all
number_zero zero xs i = refl
number_zero (suc k) xs i =
    let e : 1 + k ≡ suc k = omega arith in
    let o : i + 0 ≡ i = omega arith in
    sum_zero (get_or xs i 0) (number_at k xs (i + 1)) ∙ ap (λ x. eqb (get_or xs i 0) 0 && x) (number_zero k xs (i + 1)) ∙ sym (rw (e, o) at (zeros_split xs i 1 k))

-- a loop over pieces of eight bytes: one more that is 0, and one that is not
module _ (xs : List ℕ) (at k : ℕ) where
  next : zeros xs at (8 * (k + 1)) ≡ (zeros xs at (8 * k) && eqb (number_at 8 xs (at + 8 * k)) 0)
  next =
      let e : 8 * (k + 1) ≡ 8 * k + 8 = omega arith in
      rw e (zeros_split xs at (8 * k) 8 ∙ ap (λ x. zeros xs at (8 * k) && x) (sym (number_zero 8 xs (at + 8 * k))))

  pub piece_zero : zeros xs at (8 * k) ≡ true → number_at 8 xs (at + 8 * k) ≡ 0 → zeros xs at (8 * (k + 1)) ≡ true
  piece_zero e z = next ∙ rw (e, eq-eqb _ _ z)

  pub piece_other : (n : ℕ) → k < n → (number_at 8 xs (at + 8 * k) ≡ 0 → ⊥) → false ≡ zeros xs at (8 * n)
  piece_other n l z =
      let e : 8 * n ≡ 8 * (k + 1) + (8 * n - 8 * (k + 1)) = omega arith in
      rw e (sym (zeros_split xs at (8 * (k + 1)) _ ∙ simp (next, ne_eqb _ _ z, and-false)))
