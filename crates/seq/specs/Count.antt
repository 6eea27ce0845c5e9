-- Numbers on and off a list, and how many of them pass a test: the terms in which counts are compared. Assumes nothing.
use Rattle.std.specs.Prelude.{◌≡◌, ◌≢◌, ◌⊎◌, Bool, cond, List, [], ◌∷◌, ℕ, ◌+◌, ◌<◌}

-- what one number adds to a count
abbrev pub bit : Bool → ℕ
bit b = cond b 1 0

-- A list of places: a number is none of them, or one of them; the places are below n and differ; and what they add to a count.
abbrev pub Off : ℕ → List ℕ → Type 0
Off j [] = Unit
Off j (a ∷ bs) = (j ≢ a) × Off j bs

abbrev pub On : ℕ → List ℕ → Type 0
On j [] = ⊥
On j (a ∷ bs) = (j ≡ a) ⊎ On j bs

abbrev pub Places : ℕ → List ℕ → Type 0
Places n [] = Unit
Places n (a ∷ bs) = (a < n) × Off a bs × Places n bs

abbrev pub bits : (ℕ → Bool) → List ℕ → ℕ
bits p [] = 0
bits p (a ∷ bs) = bit (p a) + bits p bs
