-- Picking from lists: what holds of each element, what holds of some, and taking one out at a place. A reader has to believe this file. Assumes nothing.
use Rattle.std.specs.Prelude.{◌≡◌, ◌⊎◌, Bool, true, false, List, [], ◌∷◌, ℕ, zero, suc}
use Rattle.std.proofs.Math.Option.{Option, none, some}

module _ {A : Type 0} where
  -- each element has the property
  abbrev pub All : (A → Type 0) → List A → Type 0
  All P [] = Unit {0}
  All P (x ∷ xs) = P x × All P xs

  -- some element has the property
  abbrev pub Any : (A → Type 0) → List A → Type 0
  Any P [] = ⊥
  Any P (x ∷ xs) = P x ⊎ Any P xs

  -- the list has no element
  abbrev pub Empty : List A → Type 0
  Empty [] = Unit {0}
  Empty (x ∷ xs) = ⊥

  -- the same as a test
  abbrev pub null : List A → Bool
  null [] = true
  null (x ∷ xs) = false

  -- r stands in the first list, and the second is the first without it
  pub data Pick (r : A) : List A → List A → Type 0 where
    here : {xs : List A} → Pick r (r ∷ xs) xs
    there : {x : A} {xs ys : List A} → Pick r xs ys → Pick r (x ∷ xs) (x ∷ ys)

  -- an element of the list, the others in their order, and that it is so
  abbrev pub Picked : List A → Type 0
  Picked xs = (r : A) × (ys : List A) × Pick r xs ys

  abbrev pub further : (x : A) (xs : List A) → Option (Picked xs) → Option (Picked (x ∷ xs))
  further x xs none = none
  further x xs (some p) = some (p.0, x ∷ p.1, there p.2)

  -- the element at a place, counted from 0; none past the end
  abbrev pub pick : ℕ → (xs : List A) → Option (Picked xs)
  pick n [] = none
  pick zero (x ∷ xs) = some (x, xs, here)
  pick (suc n) (x ∷ xs) = further x xs (pick n xs)

  -- the list has the element
  abbrev pub Has : List A → A → Type 0
  Has xs r = Any (λ x. x ≡ r) xs
