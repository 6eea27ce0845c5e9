-- Where in a list with one element marked another is picked: ahead of it, itself, behind it. Assumes nothing.
use Rattle.std.specs.Prelude.{◌≡◌, List, ◌∷◌, ◌++◌}
use Rattle.crash_theorem.specs.Pick.{Pick, Has}

module _ {A : Type 0} where
  -- one picked from xs ++ d ∷ ys: it is of xs, or d itself, or of ys
  pub data Part (r d : A) (xs ys zs : List A) : Type 0 where
    ahead : {us : List A} → Pick r xs us → zs ≡ us ++ d ∷ ys → Part r d xs ys zs
    middle : r ≡ d → zs ≡ xs ++ ys → Part r d xs ys zs
    behind : {us : List A} → Pick r ys us → Has zs d → Part r d xs ys zs
