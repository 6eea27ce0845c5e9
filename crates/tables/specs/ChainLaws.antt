-- Laws of chains: one more number enters its chain, and one more step of a search along one. Assumes nothing.
use Rattle.std.specs.Prelude.{◌≡◌, refl, Bool, true, false, List, ℕ, ◌+◌, ◌-◌, ◌≤◌, ◌<◌, get_or, set, replicate}
use Rattle.std.proofs.Common.{sym, ◌∙◌, arith, length-set, get_or-set_same, get_or-set_other}
use Rattle.std.proofs.Math.Decide.{ℕ_discrete, dec_lt}
use Rattle.std.proofs.lemmas.List.{get_or-replicate, length-replicate}
use Rattle.seq.specs.Search.{any}
use Rattle.seq.proofs.SearchLaws.{any_false}
use Rattle.tables.specs.Chain.{Last, Heads, Nexts, Passed}

module _ (key : ℕ → ℕ) where
  pub heads_none : (w : ℕ) → Heads key w 0 (replicate w 0)
  heads_none w = record { long = let e = length-replicate {A = ℕ} w 0 in omega arith; at = λ b l. rw (get_or-replicate {A = ℕ} w b 0 0 l) (record { below = omega arith; here = λ z. absurd (omega arith); none = λ i p q e. absurd (omega arith) }) }

  pub nexts_none : (w r : ℕ) → Nexts key w r 0 (replicate r 0)
  nexts_none w r = record { long = let e = length-replicate {A = ℕ} r 0 in omega arith; at = λ k l u. absurd (omega arith) }

  -- a number with another key
  last_skip : (b m at : ℕ) → Last key b m at → (key m ≡ b → ⊥) → Last key b (m + 1) at
  last_skip b m at l ne = record { below = omega (arith, l.below); here = l.here; none = λ i p q e. go i p q e (ℕ_discrete i m) }
    where
      go : (i : ℕ) → at ≤ i → i < m + 1 → key i ≡ b → Dec (i ≡ m) → ⊥
      go i p q e (yes z) = ne (rw z at e)
      go i p q e (no z) = l.none i p (omega arith) e

  last_new : (b m : ℕ) → key m ≡ b → Last key b (m + 1) (m + 1)
  last_new b m e = record { below = omega arith; here = λ z. let s : m + 1 - 1 ≡ m = omega arith in rw s e; none = λ i p q z. absurd (omega arith) }

  -- a turn that passes over a number without a key
  pub heads_skip : (w m : ℕ) (heads : List ℕ) → Heads key w m heads → w ≤ key m → Heads key w (m + 1) heads
  heads_skip w m heads h l = record { long = h.long; at = λ b u. last_skip b m (get_or heads b 0) (h.at b u) (λ e. omega arith) }

  pub nexts_skip : (w r m : ℕ) (nexts : List ℕ) → Nexts key w r m nexts → w ≤ key m → Nexts key w r (m + 1) nexts
  nexts_skip w r m nexts n l = record { long = n.long; at = λ k u v. go k u v (ℕ_discrete k m) }
    where
      go : (k : ℕ) → k < m + 1 → key k < w → Dec (k ≡ m) → Last key (key k) k (get_or nexts k 0)
      go k u v (yes z) = absurd (let q : key m < w = rw z at v in omega arith)
      go k u v (no z) = n.at k (omega arith) v

  -- a turn that enters a number into its chain
  pub heads_turn : (w m : ℕ) (heads : List ℕ) → Heads key w m heads → key m < w → Heads key w (m + 1) (set heads (key m) (m + 1))
  heads_turn w m heads h l = record { long = rw length-set h.long; at = λ b u. go b u (ℕ_discrete b (key m)) }
    where
      go : (b : ℕ) → b < w → Dec (b ≡ key m) → Last key b (m + 1) (get_or (set heads (key m) (m + 1)) b 0)
      go b u (yes e) = rw (e, get_or-set_same heads (key m) (m + 1) 0 (omega (arith, h.long))) (last_new (key m) m refl)
      go b u (no e) = rw (get_or-set_other heads (key m) b (m + 1) 0 e) (last_skip b m (get_or heads b 0) (h.at b u) (λ z. e (sym z)))

  pub nexts_turn : (w r m at : ℕ) (nexts : List ℕ) → Nexts key w r m nexts → Last key (key m) m at → m < r → Nexts key w r (m + 1) (set nexts m at)
  nexts_turn w r m at nexts n a l = record { long = rw length-set n.long; at = λ k u v. go k u v (ℕ_discrete k m) }
    where
      go : (k : ℕ) → k < m + 1 → key k < w → Dec (k ≡ m) → Last key (key k) k (get_or (set nexts m at) k 0)
      go k u v (yes z) = rw (z, get_or-set_same nexts m at 0 (omega (arith, n.long))) a
      go k u v (no z) = rw (get_or-set_other nexts m k at 0 z) (n.at k (omega arith) v)

module _ (key : ℕ → ℕ) (clash : ℕ → Bool) (j : ℕ) (same : (i : ℕ) → clash i ≡ true → key i ≡ key j) where
  apart : (i : ℕ) → (key i ≡ key j → ⊥) → clash i ≡ false
  apart i ne = go (clash i) refl
    where
      go : (b : Bool) → clash i ≡ b → clash i ≡ false
      go true e = absurd (ne (same i e))
      go false e = e

  pub passed_none : (at : ℕ) → Last key (key j) j at → Passed key clash j at
  passed_none at l = record { below = l.below; here = l.here; none = λ i p q. apart i (l.none i p q) }

  pub passed_turn : (at next : ℕ) → Passed key clash j at → 0 < at → clash (at - 1) ≡ false → Last key (key (at - 1)) (at - 1) next → Passed key clash j next
  passed_turn at next p some e l = record {
    below = omega (arith, l.below, p.below);
    here = λ z. l.here z ∙ p.here some;
    none = λ i a b. go i a b (dec_lt i (at - 1)) (ℕ_discrete i (at - 1));
  }
    where
      go : (i : ℕ) → next ≤ i → i < j → Dec (i < at - 1) → Dec (i ≡ at - 1) → clash i ≡ false
      go i a b (yes c) z = apart i (λ q. l.none i a c (q ∙ sym (p.here some)))
      go i a b (no c) (yes z) = rw z e
      go i a b (no c) (no z) = p.none i (omega arith) b

pub passed_all : (key : ℕ → ℕ) (clash : ℕ → Bool) (j at : ℕ) → Passed key clash j at → at ≡ 0 → any clash j ≡ false
passed_all key clash j at p z = any_false clash j (λ i l. p.none i (omega arith) l)
