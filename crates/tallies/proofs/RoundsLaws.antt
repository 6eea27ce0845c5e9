-- A round takes each place at least twice as far as all were before, and what has gone far is at the root exactly where the way leads there. Assumes nothing.
use Rattle.std.specs.Prelude.{◌≡◌, refl, List, length, get_or, set}
use Rattle.std.proofs.Common.{sym, ap, ◌∙◌, add-one, arith, length-set, get_or-set_same, get_or-set_other}
use Prim.Native.Nat.{ℕ, zero, suc, ◌+◌, ◌-◌, ◌≤◌, ◌<◌}
use Rattle.std.proofs.Math.Decide.{ℕ_discrete}
use Rattle.seq.specs.Climb.{up}
use Rattle.seq.proofs.ClimbLaws.{up_add, stays}
use Rattle.seq.proofs.ClimbWays.{up_in, short_way}
use Rattle.tables.specs.Table.{Table, Within}
use Rattle.tallies.specs.Rounds.{round, Rooted, Far, Climbed, Midway}

-- one more turn of a round
pub round_none : (xs : List ℕ) → xs ≡ round 0 xs
unfolding round
round_none xs = refl

pub round_turn : (m : ℕ) (xs ys : List ℕ) → ys ≡ round m xs → set ys m (get_or ys (get_or ys m 0) 0) ≡ round (m + 1) xs
unfolding round
round_turn m xs ys e = rw (add-one, e)

pub rooted_turn : (m x : ℕ) (xs : List ℕ) → m < length xs → x ≡ 0 → Rooted m xs → Rooted (m + 1) (set xs m x)
rooted_turn m x xs l z r i b = go (ℕ_discrete i m)
  where
    go : Dec (i ≡ m) → get_or (set xs m x) i 0 ≡ 0
    go (yes e) = rw e (get_or-set_same xs m x 0 l ∙ z)
    go (no e) = get_or-set_other xs m i x 0 e ∙ r i (omega arith)

pub within_turn : (n m : ℕ) (xs : List ℕ) → m < n → Within n xs → Within n (set xs m (get_or xs (get_or xs m 0) 0))
within_turn n m xs l w = record { long = rw length-set w.long; at = λ i b. go i b (ℕ_discrete i m) }
  where
    x : ℕ
    x = get_or xs (get_or xs m 0) 0

    go : (i : ℕ) → i < n → Dec (i ≡ m) → get_or (set xs m x) i 0 < n
    go i b (yes e) = rw (e, get_or-set_same xs m x 0 (omega (arith, w.long))) (w.at (get_or xs m 0) (w.at m l))
    go i b (no e) = rw (get_or-set_other xs m i x 0 e) (w.at i b)

pub table_climbed : (f : ℕ → ℕ) (n : ℕ) (xs : List ℕ) → Table f n xs → Climbed f 1 n xs
unfolding up
table_climbed f n xs t = record { long = t.long; at = λ i l. (1, omega arith, sym (t.at i l)) }

module _ (f : ℕ → ℕ) (n : ℕ) (inside : (i : ℕ) → i < n → f i < n) where
  far_in : (s i x : ℕ) → i < n → Far f s i x → x < n
  far_in s i x l (c, b, e) = rw e at (up_in (λ i. i < n) n (λ i b. b) f inside c i l)

  pub climbed_within : (s : ℕ) (xs : List ℕ) → Climbed f s n xs → Within n xs
  climbed_within s xs c = record { long = c.long; at = λ i l. far_in s i (get_or xs i 0) l (c.at i l) }

  far_join : (s t i x y : ℕ) → Far f s i x → Far f t x y → Far f (s + t) i y
  far_join s t i x y (c, b, e) (d, u, z) = (c + d, omega arith, up_add f c d i ∙ ap (up f d) e ∙ z)

  -- one more place goes on
  midway_turn : (s m : ℕ) (xs : List ℕ) → m < n → Midway f n s m xs → Midway f n s (suc m) (set xs m (get_or xs (get_or xs m 0) 0))
  midway_turn s m xs l w = record {
    climbed = record { long = rw length-set w.climbed.long; at = λ i b. near i b (ℕ_discrete i m) };
    on = λ i b. far i b (ℕ_discrete i m);
  }
    where
      x : ℕ
      x = get_or xs (get_or xs m 0) 0

      same : get_or (set xs m x) m 0 ≡ x
      same = get_or-set_same xs m x 0 (omega (arith, w.climbed.long))

      new : Far f (s + s) m x
      new = far_join s s m (get_or xs m 0) x (w.climbed.at m l) (w.climbed.at (get_or xs m 0) (far_in s m (get_or xs m 0) l (w.climbed.at m l)))

      near : (i : ℕ) → i < n → Dec (i ≡ m) → Far f s i (get_or (set xs m x) i 0)
      near i b (yes e) = let (c, u, z) = new in rw (e, same) (c, omega arith, z)
      near i b (no e) = rw (get_or-set_other xs m i x 0 e) (w.climbed.at i b)

      far : (i : ℕ) → i < suc m → Dec (i ≡ m) → Far f (s + s) i (get_or (set xs m x) i 0)
      far i b (yes e) = rw (e, same) new
      far i b (no e) = rw (get_or-set_other xs m i x 0 e) (w.on i (omega arith))

  midway : (s : ℕ) (xs : List ℕ) → Climbed f s n xs → (m : ℕ) → m ≤ n → Midway f n s m (round m xs)
  unfolding round
  midway s xs c zero l = record { climbed = c; on = λ i b. absurd (omega arith) }
  midway s xs c (suc m) l = midway_turn s m (round m xs) (omega arith) (midway s xs c m (omega arith))

  pub round_climbed : (s : ℕ) (xs ys : List ℕ) → ys ≡ round n xs → Climbed f s n xs → Climbed f (s + s) n ys
  round_climbed s xs ys e c =
      let w = midway s xs c n (omega arith) in
      rw e (record { long = w.climbed.long; at = w.on })

  -- a way that leads to the root is there after n steps
  module _ (stay : f 0 ≡ 0) where
    pub far_root : (s i : ℕ) → i < n → Far f s i 0 → up f n i ≡ 0
    far_root s i l (c, b, e) =
        let (m, u, z) = short_way (λ i. i < n) n (λ i b. b) f inside i 0 c l e in
        let k : m + (n - m) ≡ n = omega arith in
        ap (λ (o : ℕ). up f o i) (sym k) ∙ up_add f m (n - m) i ∙ ap (up f (n - m)) z ∙ stays f 0 (n - m) stay

    pub root_far : (s i x : ℕ) → n ≤ s → up f n i ≡ 0 → Far f s i x → x ≡ 0
    root_far s i x l r (c, b, e) =
        let k : n + (c - n) ≡ c = omega arith in
        sym e ∙ ap (λ (o : ℕ). up f o i) (sym k) ∙ up_add f n (c - n) i ∙ ap (up f (c - n)) r ∙ stays f 0 (c - n) stay
