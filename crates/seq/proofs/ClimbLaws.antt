-- A way up is never longer than there are places (the pigeonhole), and ways that stay when some steps change. Assumes nothing.
use Rattle.std.specs.Prelude.{◌≡◌, ◌≢◌, Bool}
use Rattle.std.proofs.Math.Path.{refl, sym, ap}
use Rattle.std.proofs.Common.{◌∙◌, suc-add, zero-add}
use Rattle.std.proofs.Math.Bool.{or-false}
use Prim.Native.Nat.{ℕ, zero, suc, ◌+◌, ◌-◌, ◌≤◌, ◌<◌}
use Rattle.std.proofs.Math.Decide.{dec_le}
use Rattle.std.proofs.Math.Nat.{le_refl}
use native.Mathlib.Omega.{arith}
use Rattle.std.proofs.Math.Dec.{eqb}
use borrow.Author.Tests.{eq-eqb, ne_eqb}
use Rattle.seq.specs.Search.{any, count}
use Rattle.seq.proofs.SearchLaws.{any_none, any_false, any_hit, count_le}
use Rattle.seq.specs.Count.{bit}
use Rattle.seq.proofs.CountLaws.{count_one, count_never}
use Rattle.seq.specs.Climb.{up}

-- n different numbers below a limit: n is at most the limit
module _ (p : ℕ → ℕ) (limit : ℕ) where
  -- x is one of the first n
  seen : ℕ → ℕ → Bool
  seen n x = any (λ k. eqb (p k) x) n

  seen_next : (n x : ℕ) → p n ≢ x → seen (suc n) x ≡ seen n x
  unfolding seen any
  seen_next n x other = rw (ne_eqb (p n) x other, or-false)

  count_seen : (n : ℕ) → ((k : ℕ) → k < n → p k < limit) → ((a b : ℕ) → a < b → b < n → p a ≢ p b) → count (seen n) limit ≡ n
  unfolding seen
  count_seen zero below apart = count_never _ limit (λ x _. any_none _)
  count_seen (suc n) below apart =
      let last : n < suc n = le_refl (suc n) in
      omega (
        arith,
        count_one (seen n) (seen (suc n)) limit (p n) (below n last) (λ x _ other. seen_next n x (λ e. other (sym e))),
        ap bit (any_false (λ k. eqb (p k) (p n)) n (λ k l. ne_eqb _ _ (apart k n l last))),
        ap bit (any_hit (λ k. eqb (p k) (p n)) (suc n) n last (eq-eqb (p n) (p n) refl)),
        count_seen n (λ k l. below k (omega arith)) (λ a b l m. apart a b l (omega arith)),
      )

  pub pigeonhole : (n : ℕ) → ((k : ℕ) → k < n → p k < limit) → ((a b : ℕ) → a < b → b < n → p a ≢ p b) → n ≤ limit
  pigeonhole n below apart = omega (arith, count_seen n below apart, count_le (seen n) limit)

-- m steps and then n
pub up_add : (f : ℕ → ℕ) (m n i : ℕ) → up f (m + n) i ≡ up f n (up f m i)
unfolding up
up_add f zero n i = rw zero-add
up_add f (suc m) n i = rw suc-add (up_add f m n (f i))

-- a step that stays stays
pub stays : (f : ℕ → ℕ) (i k : ℕ) → f i ≡ i → up f k i ≡ i
unfolding up
stays f i zero e = refl
stays f i (suc k) e = rw e (stays f i k e)

-- what leads to a top that stays, and comes back to itself, is the top
module _ (f : ℕ → ℕ) (top x k : ℕ) (stay : f top ≡ top) (back : up f (suc k) x ≡ x) where
  within : (m n : ℕ) → n ≤ m → up f n x ≡ top → x ≡ top
  unfolding up
  within zero n l e = let z : n ≡ 0 = omega arith in rw z at e
  within (suc m) n l e = go (λ o. within m o) (dec_le n (suc k))
    where
      go : ((o : ℕ) → o ≤ m → up f o x ≡ top → x ≡ top) → Dec (n ≤ suc k) → x ≡ top
      go r (yes h) =
          let z : n + (suc k - n) ≡ suc k = omega arith in
          sym back ∙ ap (λ o. up f o x) (sym z) ∙ up_add f n (suc k - n) x ∙ ap (up f (suc k - n)) e ∙ stays f top (suc k - n) stay
      go r (no h) =
          let z : suc k + (n - suc k) ≡ n = omega arith in
          r (n - suc k) (omega arith) (sym (up_add f (suc k) (n - suc k) x ∙ ap (up f (n - suc k)) back) ∙ ap (λ o. up f o x) z ∙ e)

  pub no_circle : (n : ℕ) → up f n x ≡ top → x ≡ top
  no_circle n = within n n (le_refl n)

-- Where a step changes, the old way up from its new end meets no changed step: every place still leads to the top.
module _ (In Changed : ℕ → Type 0) (changed : (i : ℕ) → Dec (Changed i)) (f g : ℕ → ℕ) (top : ℕ) (inside : (i : ℕ) → In i → In (g i))
    (kept : (i : ℕ) → In i → (Changed i → ⊥) → g i ≡ f i)
    (leads : (i : ℕ) → In i → (Changed i → ⊥) → (k : ℕ) × (up f k i ≡ top))
    (clear : (i : ℕ) → In i → Changed i → (k : ℕ) → Changed (up f k (g i)) → ⊥) where
  same_way : (k i : ℕ) → In i → ((j : ℕ) → Changed (up f j i) → ⊥) → up g k i ≡ up f k i
  unfolding up
  same_way zero i h free = refl
  same_way (suc k) i h free =
      let e : g i ≡ f i = kept i h (free 0) in
      ap (up g k) e ∙ same_way k (f i) (rw e at (inside i h)) (λ j. free (suc j))

  -- a place whose own step changed
  turned : (i : ℕ) → In i → Changed i → (k : ℕ) × (up g k i ≡ top)
  unfolding up
  turned i h c =
      let (m, e) = leads (g i) (inside i h) (clear i h c 0) in
      (suc m, same_way m (g i) (inside i h) (clear i h c) ∙ e)

  -- a place that led to the top in n steps
  still : (n i : ℕ) → In i → up f n i ≡ top → (k : ℕ) × (up g k i ≡ top)
  unfolding up
  still zero i h e = (0, e)
  still (suc n) i h e = go (λ z. still n (f i) (rw z at (inside i h)) e) (changed i)
    where
      go : (g i ≡ f i → (k : ℕ) × (up g k (f i) ≡ top)) → Dec (Changed i) → (k : ℕ) × (up g k i ≡ top)
      go r (yes c) = turned i h c
      go r (no c) = let z : g i ≡ f i = kept i h c in let (k, d) = r z in (suc k, ap (up g k) z ∙ d)

  pub still_leads : (i : ℕ) → In i → (k : ℕ) × (up g k i ≡ top)
  still_leads i h = go (changed i)
    where
      go : Dec (Changed i) → (k : ℕ) × (up g k i ≡ top)
      go (yes c) = turned i h c
      go (no c) = let (n, e) = leads i h c in still n i h e
