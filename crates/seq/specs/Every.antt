-- A test of every byte of a list. Assumes nothing.
use Rattle.std.specs.Prelude.{Bool, List, ℕ, length, get_or}
use Rattle.seq.specs.Search.{all}

module _ (p : ℕ → Bool) where
  -- every byte passes
  abbrev pub every : List ℕ → Bool
  every xs = all (λ k. p (get_or xs k 0)) (length xs)
