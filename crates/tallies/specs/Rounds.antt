-- Rounds over a table of steps up: each takes every place on to where the one that it has come to has come. Assumes nothing.
use Rattle.std.specs.Prelude.{◌≡◌, List, ℕ, zero, suc, ◌+◌, ◌≤◌, ◌<◌, length, get_or, set}
use Rattle.seq.specs.Climb.{up}

-- the first m places go on in turn; a later one may meet one that has gone on in the same round
unfoldable pub round : ℕ → List ℕ → List ℕ
round zero xs = xs
round (suc m) xs = set (round m xs) m (get_or (round m xs) (get_or (round m xs) m 0) 0)

-- the first m places are at the root
abbrev pub Rooted : ℕ → List ℕ → Type 0
Rooted m xs = (i : ℕ) → i < m → get_or xs i 0 ≡ 0

-- x is at least s steps up from i
abbrev pub Far : (ℕ → ℕ) → ℕ → ℕ → ℕ → Type 0
Far f s i x = (c : ℕ) × (s ≤ c) × (up f c i ≡ x)

-- each of n places has come at least s steps up
pub record Climbed (f : ℕ → ℕ) (s n : ℕ) (xs : List ℕ) : Type 0 where
  pub long : n ≤ length xs
  pub at : (i : ℕ) → i < n → Far f s i (get_or xs i 0)

-- in the midst of a round the first m places have gone on
pub record Midway (f : ℕ → ℕ) (n s m : ℕ) (xs : List ℕ) : Type 0 where
  pub climbed : Climbed f s n xs
  pub on : (i : ℕ) → i < m → Far f (s + s) i (get_or xs i 0)
