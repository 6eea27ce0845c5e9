-- Laws of turns: where anything is left, the turn of something has come. Assumes nothing.
use Rattle.std.specs.Prelude.{◌≡◌, refl, ◌⊎◌, Bool, true, false, ◌&&◌, List, [], ◌∷◌, ℕ, suc, ◌≤◌, T, leb}
use Rattle.std.proofs.Common.{ap, inl, inr, arith, leb→le, le→leb}
use Rattle.std.proofs.Math.Option.{some}
use Rattle.std.proofs.Math.Decide.{dec_le}
use Rattle.crash_theorem.specs.Pick.{Empty, here, there, Picked, pick, further}
use Rattle.crash_theorem.proofs.PickLaws.{all_unpick, all_map}
use Rattle.crash_theorem.specs.Turn.{Low, Turn, lowest}

module _ {A : Type 0} (f : A → ℕ) where
  pub lowest_low : (r : A) (xs : List A) → T (lowest f (f r) xs) → Low f r xs
  lowest_low r [] h = tt
  lowest_low r (x ∷ xs) h = go (leb (f r) (f x)) (leb→le (f r) (f x)) (lowest_low r xs) h
    where
      go : (b : Bool) → (T b → f r ≤ f x) → (T (lowest f (f r) xs) → Low f r xs) → T (b && lowest f (f r) xs) → Low f r (x ∷ xs)
      go true e k h = (e tt, k h)
      go false e k h = absurd h

  pub low_lowest : (r : A) (xs : List A) → Low f r xs → T (lowest f (f r) xs)
  low_lowest r [] h = tt
  low_lowest r (x ∷ xs) h = go (leb (f r) (f x)) (le→leb (f r) (f x) h.0) (low_lowest r xs h.1)
    where
      go : (b : Bool) → T b → T (lowest f (f r) xs) → T (b && lowest f (f r) xs)
      go true e k = k
      go false e k = absurd e

  -- where anything is left, the turn of something has come
  pub has_turn : (xs : List A) → Empty xs ⊎ Turn f xs
  has_turn [] = inl tt
  has_turn (x ∷ xs) = inr (go xs (has_turn xs))
    where
      pass : (ys : List A) (i : ℕ) (p : Picked ys) → pick i ys ≡ some p → Low f p.0 p.1 → Dec (f x ≤ f p.0) → Turn f (x ∷ ys)
      pass ys i p e l (yes h) = (
        0,
        (x, ys, here),
        refl,
        low_lowest x ys (all_unpick (λ y. f x ≤ f y) p.2 h
            (all_map (λ y. f p.0 ≤ f y) (λ y. f x ≤ f y) (λ y k. omega arith) p.1 l)),
      )
      pass ys i p e l (no h) =
          (suc i, (p.0, x ∷ p.1, there p.2), ap (further x ys) e, low_lowest p.0 (x ∷ p.1) (omega arith, l))

      go : (ys : List A) → Empty ys ⊎ Turn f ys → Turn f (x ∷ ys)
      go [] t = (0, (x, [], here), refl, tt)
      go (y ∷ ys) (inl e) = absurd e
      go (y ∷ ys) (inr (i, p, e, l)) = pass (y ∷ ys) i p e (lowest_low p.0 p.1 l) (dec_le (f x) (f p.0))
