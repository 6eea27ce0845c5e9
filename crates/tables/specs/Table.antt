-- Tables in arrays: a function's values, how many numbers have each key, and the first number that has it. Assumes nothing.
use Rattle.std.specs.Prelude.{◌≡◌, Bool, true, false, List, ℕ, ◌≤◌, ◌<◌, eqb, length, get_or}
use Rattle.seq.specs.Search.{count}

-- xs holds f at each number below m
pub record Table (f : ℕ → ℕ) (m : ℕ) (xs : List ℕ) : Type 0 where
  pub long : m ≤ length xs
  pub at : (i : ℕ) → i < m → get_or xs i 0 ≡ f i

-- n numbers, each below n
pub record Within (n : ℕ) (xs : List ℕ) : Type 0 where
  pub long : n ≤ length xs
  pub at : (i : ℕ) → i < n → get_or xs i 0 < n

-- how many of the numbers below n have key i
unfoldable pub tally : (ℕ → ℕ) → ℕ → ℕ → ℕ
tally key n i = count (λ j. eqb (key j) i) n

-- x is the first number from k on that passes, or n where none does
pub record Least (p : ℕ → Bool) (k n x : ℕ) : Type 0 where
  pub upto : x ≤ n
  pub hit : x < n → p x ≡ true
  pub none : (i : ℕ) → k ≤ i → i < x → p i ≡ false

-- the first number from k on that has each key
pub record Firsts (key : ℕ → ℕ) (m k n : ℕ) (xs : List ℕ) : Type 0 where
  pub long : m ≤ length xs
  pub at : (t : ℕ) → t < m → Least (λ j. eqb (key j) t) k n (get_or xs t 0)
