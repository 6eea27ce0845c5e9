-- Laws of a list of tests that all pass: from each to the whole, and back. Assumes nothing.
use Rattle.std.specs.Prelude.{◌≡◌, refl, Bool, true, List, [], ◌∷◌, ℕ, zero, suc, get_or}
use Rattle.seq.specs.Search.{all_pass}
use Rattle.seq.specs.Truth.{and_left, and_right, and_both}

-- each of them passes
infixr 5 ◌&◌
pub data Every : List Bool → Type 0 where
  no_more : Every []
  ◌&◌ : {b : Bool} {bs : List Bool} → b ≡ true → Every bs → Every (b ∷ bs)

pub is_every : {bs : List Bool} → Every bs → all_pass bs ≡ true
is_every no_more = refl
is_every (◌&◌ {b} {bs} e t) = and_both b (all_pass bs) e (is_every t)

-- the one at a place
pub every_at : (bs : List Bool) → all_pass bs ≡ true → (k : ℕ) → get_or bs k true ≡ true
every_at [] e k = refl
every_at (b ∷ bs) e zero = and_left b (all_pass bs) e
every_at (b ∷ bs) e (suc k) = every_at bs (and_right b (all_pass bs) e) k
