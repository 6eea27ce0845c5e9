-- Steps up from place to place. Assumes nothing.
use Rattle.std.specs.Prelude.{ℕ, zero, suc}

-- n steps up
unfoldable pub up : (ℕ → ℕ) → ℕ → ℕ → ℕ
up f zero i = i
up f (suc n) i = up f n (f i)
