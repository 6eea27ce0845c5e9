-- Chains of numbers with the same key, by which a search for two that clash looks at few pairs. Assumes nothing.
use Rattle.std.specs.Prelude.{◌≡◌, Bool, false, List, ℕ, ◌-◌, ◌≤◌, ◌<◌, length, get_or}

-- at is one more than the last number below m that has key b, or 0 where none has
pub record Last (key : ℕ → ℕ) (b m at : ℕ) : Type 0 where
  pub below : at ≤ m
  pub here : 0 < at → key (at - 1) ≡ b
  pub none : (i : ℕ) → at ≤ i → i < m → key i ≡ b → ⊥

-- the last number of each key below w
pub record Heads (key : ℕ → ℕ) (w m : ℕ) (heads : List ℕ) : Type 0 where
  pub long : w ≤ length heads
  pub at : (b : ℕ) → b < w → Last key b m (get_or heads b 0)

-- for each number with such a key the last one before it with the same
pub record Nexts (key : ℕ → ℕ) (w r m : ℕ) (nexts : List ℕ) : Type 0 where
  pub long : r ≤ length nexts
  pub at : (k : ℕ) → k < m → key k < w → Last key (key k) k (get_or nexts k 0)

-- A search along one chain: no number from at up to j clashes with j, and the one before at is in j's chain.
pub record Passed (key : ℕ → ℕ) (clash : ℕ → Bool) (j at : ℕ) : Type 0 where
  pub below : at ≤ j
  pub here : 0 < at → key (at - 1) ≡ key j
  pub none : (i : ℕ) → at ≤ i → i < j → clash i ≡ false
