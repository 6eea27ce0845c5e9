-- Laws of tables: one more turn of the loop that fills one, and what a table of first numbers tells. Assumes nothing.
use Rattle.std.specs.Prelude.{◌≡◌, refl, Bool, true, false, ◌&&◌, cond, List, ℕ, ◌+◌, ◌≤◌, ◌<◌, eqb, ltb, length, get_or, set, replicate}
use Rattle.std.proofs.Common.{sym, ap, ◌∙◌, arith, length-set, get_or-set_same, get_or-set_other, eq-eqb, ne_eqb, lt-ltb, le-ltb}
use Rattle.std.proofs.Math.Decide.{ℕ_discrete, dec_lt}
use Rattle.std.proofs.lemmas.List.{get_or-replicate, length-replicate}
use Rattle.seq.specs.Search.{any, first, count}
use Rattle.seq.proofs.SearchLaws.{any_hit, any_false, count_none, count_hit, count_miss, count_le, first_hit, first_none, first_passes, first_upto}
use Rattle.tables.specs.Table.{Table, tally, Least, Firsts}

-- a table of one function is one of any that agrees with it below the bound
pub table_same : (f g : ℕ → ℕ) (m k : ℕ) (xs : List ℕ) → k ≤ m → ((i : ℕ) → i < k → f i ≡ g i) → Table f m xs → Table g k xs
table_same f g m k xs l e t = record { long = omega (arith, t.long); at = λ i b. t.at i (omega arith) ∙ e i b }

-- no tally is more than all
pub tally_le : (key : ℕ → ℕ) (n i : ℕ) → tally key n i ≤ n
unfolding tally
tally_le key n i = count_le (λ j. eqb (key j) i) n

-- the table before the first turn, and after one more
pub tally_none : (key : ℕ → ℕ) (m : ℕ) → Table (tally key 0) m (replicate m 0)
unfolding tally
tally_none key m = record { long = let e = length-replicate {A = ℕ} m 0 in omega arith; at = λ i b. get_or-replicate m i 0 0 b ∙ sym (count_none (λ j. eqb (key j) i)) }

pub tally_turn : (key : ℕ → ℕ) (m n : ℕ) (xs : List ℕ) → Table (tally key n) m xs → key n < m
    → Table (tally key (n + 1)) m (set xs (key n) (get_or xs (key n) 0 + 1))
unfolding tally
tally_turn key m n xs t l = record { long = rw length-set t.long; at = λ i b. go i b (ℕ_discrete i (key n)) }
  where
    go : (i : ℕ) → i < m → Dec (i ≡ key n) → get_or (set xs (key n) (get_or xs (key n) 0 + 1)) i 0 ≡ count (λ j. eqb (key j) i) (n + 1)
    go i b (yes e) =
        ap (λ (k : ℕ). get_or (set xs (key n) (get_or xs (key n) 0 + 1)) k 0) e
        ∙ get_or-set_same xs (key n) (get_or xs (key n) 0 + 1) 0 (omega (arith, t.long))
        ∙ ap (λ (k : ℕ). get_or xs k 0 + 1) (sym e)
        ∙ ap (λ (k : ℕ). k + 1) (t.at i b)
        ∙ sym (count_hit (λ j. eqb (key j) i) n (eq-eqb _ _ (sym e)))
    go i b (no e) =
        get_or-set_other xs (key n) i (get_or xs (key n) 0 + 1) 0 e
        ∙ t.at i b
        ∙ sym (count_miss (λ j. eqb (key j) i) n (ne_eqb _ _ (λ z. e (sym z))))

-- the least is the first
pub least_first : (p : ℕ → Bool) (n x : ℕ) → Least p 0 n x → x ≡ first p n
least_first p n x l = go (dec_lt x n)
  where
    go : Dec (x < n) → x ≡ first p n
    go (yes b) = sym (first_hit p n x b (any_false p x (λ i c. l.none i (omega arith) c)) (l.hit b))
    go (no b) =
        let e : x ≡ n = omega (arith, l.upto) in
        e ∙ sym (first_none p n (any_false p n (λ i c. l.none i (omega arith) (omega arith))))

-- a table of first numbers is filled from the last number down
pub firsts_none : (key : ℕ → ℕ) (m n : ℕ) → Firsts key m n n (replicate m n)
firsts_none key m n = record { long = let e = length-replicate {A = ℕ} m n in omega arith; at = λ t b. rw (get_or-replicate m t n 0 b) (record { upto = omega arith; hit = λ l. absurd (omega arith); none = λ i a c. absurd (omega arith) }) }

pub firsts_turn : (key : ℕ → ℕ) (m k n : ℕ) (xs : List ℕ) → Firsts key m (k + 1) n xs → k < n → key k < m
    → Firsts key m k n (set xs (key k) k)
firsts_turn key m k n xs f below l = record { long = rw length-set f.long; at = λ t b. go t b (ℕ_discrete t (key k)) }
  where
    go : (t : ℕ) → t < m → Dec (t ≡ key k) → Least (λ j. eqb (key j) t) k n (get_or (set xs (key k) k) t 0)
    go t b (yes e) =
        let z : get_or (set xs (key k) k) t 0 ≡ k = ap (λ (x : ℕ). get_or (set xs (key k) k) x 0) e ∙ get_or-set_same xs (key k) k 0 (omega (arith, f.long)) in
        rw z (record { upto = omega arith; hit = λ c. eq-eqb _ _ (sym e); none = λ i a c. absurd (omega arith) })
    go t b (no e) =
        rw (get_or-set_other xs (key k) t k 0 e) (record {
          upto = (f.at t b).upto;
          hit = (f.at t b).hit;
          none = λ i a c. here i a c (ℕ_discrete i k);
        })
      where
        here : (i : ℕ) → k ≤ i → i < get_or xs t 0 → Dec (i ≡ k) → eqb (key i) t ≡ false
        here i a c (yes z) = rw z (ne_eqb _ _ (λ q. e (sym q)))
        here i a c (no z) = (f.at t b).none i (omega arith) c

-- some number below i passes where the first comes before it
pub any_first : (p : ℕ → Bool) (n i : ℕ) → i ≤ n → any p i ≡ ltb (first p n) i
any_first p n i l = go (dec_lt (first p n) i)
  where
    miss : (k : ℕ) (b : Bool) → p k ≡ b → k < i → i ≤ first p n → p k ≡ false
    miss k true e c m = absurd (let u = first_upto p n k (omega arith) e in omega arith)
    miss k false e c m = e

    go : Dec (first p n < i) → any p i ≡ ltb (first p n) i
    go (yes b) = any_hit p i (first p n) b (first_passes p n (omega arith)) ∙ sym (lt-ltb (first p n) i b)
    go (no b) =
        let m : i ≤ first p n = omega arith in
        any_false p i (λ k c. miss k (p k) refl c m) ∙ sym (le-ltb (first p n) i m)

-- a table that one more turn fills
pub table_none : (f : ℕ → ℕ) (xs : List ℕ) → Table f 0 xs
table_none f xs = record { long = omega arith; at = λ i b. absurd (omega arith) }

pub table_turn : (f : ℕ → ℕ) (n : ℕ) (xs : List ℕ) → Table f n xs → n < length xs → Table f (n + 1) (set xs n (f n))
table_turn f n xs t l = record { long = rw length-set (omega arith); at = λ i b. go i b (ℕ_discrete i n) }
  where
    go : (i : ℕ) → i < n + 1 → Dec (i ≡ n) → get_or (set xs n (f n)) i 0 ≡ f i
    go i b (yes e) = rw e (get_or-set_same xs n (f n) 0 l)
    go i b (no e) = get_or-set_other xs n i (f n) 0 e ∙ t.at i (omega arith)

-- tests that agree have the same first number
pub least_same : (p q : ℕ → Bool) (k n x : ℕ) → ((i : ℕ) → p i ≡ q i) → Least p k n x → Least q k n x
least_same p q k n x e l = record { upto = l.upto; hit = λ b. sym (e x) ∙ l.hit b; none = λ i a b. sym (e i) ∙ l.none i a b }

-- a key that is x where b holds and x is below m, else n
pub pick : (b : Bool) (x m n i : ℕ) → i < m → m ≤ n → eqb (cond (b && ltb x m) x n) i ≡ (b && eqb x i)
pick false x m n i l w = ne_eqb n i (λ e. omega arith)
pick true x m n i l w = go (dec_lt x m)
  where
    go : Dec (x < m) → eqb (cond (true && ltb x m) x n) i ≡ (true && eqb x i)
    go (yes c) = rw (lt-ltb _ _ c)
    go (no c) = rw (le-ltb x m (omega arith), ne_eqb n i (λ e. omega arith), ne_eqb x i (λ e. omega arith))
