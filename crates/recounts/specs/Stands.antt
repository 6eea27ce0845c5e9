-- A count of numbers that a call tells one by one. Assumes nothing.
use Rattle.std.specs.Prelude.{◌≡◌, Bool, ℕ, ◌<◌}
use Rattle.seq.specs.Search.{count}

-- The call answers p of each number below n, and so many of these pass it.
pub record Stands (post : ℕ → Bool → Type 0) (p : ℕ → Bool) (n stand : ℕ) : Type 0 where
  pub each : (j : ℕ) (b : Bool) → j < n → post j b → b ≡ p j
  pub counted : stand ≡ count p n
