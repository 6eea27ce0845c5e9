-- Whose turn it is: an element may be taken while none of a lower ordering group is left. A reader has to believe this file. Assumes nothing.
use Rattle.std.specs.Prelude.{◌≡◌, Bool, true, ◌&&◌, List, [], ◌∷◌, ℕ, ◌≤◌, T, leb}
use Rattle.std.proofs.Math.Option.{some}
use Rattle.crash_theorem.specs.Pick.{All, Picked, pick}

module _ {A : Type 0} (f : A → ℕ) where
  -- nothing of the list is in a group below g
  abbrev pub lowest : ℕ → List A → Bool
  lowest g [] = true
  lowest g (x ∷ xs) = leb g (f x) && lowest g xs

  -- the same as a fact: r's group is at most that of each
  abbrev pub Low : A → List A → Type 0
  Low r xs = All (λ x. f r ≤ f x) xs

  -- at some place stands an element whose turn has come
  abbrev pub Turn : List A → Type 0
  Turn xs = (i : ℕ) × (p : Picked xs) × (pick i xs ≡ some p) × T (lowest (f p.0) p.1)
