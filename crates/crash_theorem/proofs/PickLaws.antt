-- Laws of picking from lists: what holds of the element taken out, and of those left. Assumes nothing.
use Rattle.std.specs.Prelude.{◌≡◌, refl, ◌⊎◌, List, [], ◌∷◌, ◌++◌, T}
use Rattle.std.proofs.Common.{ap, subst, inl, inr, ⊎_elim}
use Rattle.crash_theorem.specs.Pick.{All, Any, Empty, Has, Pick, here, null, there}
use Rattle.crash_theorem.specs.Parted.{Part, ahead, behind, middle}

module _ {A : Type 0} where
  pub empty_null : (xs : List A) → Empty xs → T (null xs)
  empty_null [] e = tt
  empty_null (x ∷ xs) e = absurd e

  pub pick_full : {r : A} {xs ys : List A} → Pick r xs ys → Empty xs → ⊥
  pick_full here e = e
  pick_full (there p) e = e

  module _ (P : A → Type 0) where
    pub all_pick : {r : A} {xs ys : List A} → Pick r xs ys → All P xs → P r × All P ys
    all_pick here h = h
    all_pick (there p) h = let q = all_pick p h.1 in (q.0, (h.0, q.1))

    pub all_unpick : {r : A} {xs ys : List A} → Pick r xs ys → P r → All P ys → All P xs
    all_unpick here p h = (p, h)
    all_unpick (there k) p h = (h.0, all_unpick k p h.1)

    pub any_pick : {r : A} {xs ys : List A} → Pick r xs ys → Any P xs → P r ⊎ Any P ys
    any_pick here h = h
    any_pick (there p) (inl h) = inr (inl h)
    any_pick (there p) (inr h) = ⊎_elim inl (λ q. inr (inr q)) (any_pick p h)

    pub all_left : (xs ys : List A) → All P (xs ++ ys) → All P xs
    all_left [] ys h = tt
    all_left (x ∷ xs) ys h = (h.0, all_left xs ys h.1)

    pub all_right : (xs ys : List A) → All P (xs ++ ys) → All P ys
    all_right [] ys h = h
    all_right (x ∷ xs) ys h = all_right xs ys h.1

    pub all_join : (xs ys : List A) → All P xs → All P ys → All P (xs ++ ys)
    all_join [] ys h k = k
    all_join (x ∷ xs) ys h k = (h.0, all_join xs ys h.1 k)

    pub any_split : (xs ys : List A) → Any P (xs ++ ys) → Any P xs ⊎ Any P ys
    any_split [] ys a = inr a
    any_split (x ∷ xs) ys (inl p) = inl (inl p)
    any_split (x ∷ xs) ys (inr a) = ⊎_elim (λ b. inl (inr b)) inr (any_split xs ys a)

    pub any_left : (xs ys : List A) → Any P xs → Any P (xs ++ ys)
    any_left [] ys a = absurd a
    any_left (x ∷ xs) ys (inl p) = inl p
    any_left (x ∷ xs) ys (inr a) = inr (any_left xs ys a)

    pub any_right : (xs ys : List A) → Any P ys → Any P (xs ++ ys)
    any_right [] ys a = a
    any_right (x ∷ xs) ys a = inr (any_right xs ys a)

  pub all_map : (P Q : A → Type 0) → ((x : A) → P x → Q x) → (xs : List A) → All P xs → All Q xs
  all_map P Q f [] h = tt
  all_map P Q f (x ∷ xs) h = (f x h.0, all_map P Q f xs h.1)

  pub any_map : (P Q : A → Type 0) → ((x : A) → P x → Q x) → (xs : List A) → Any P xs → Any Q xs
  any_map P Q f [] a = absurd a
  any_map P Q f (x ∷ xs) (inl p) = inl (f x p)
  any_map P Q f (x ∷ xs) (inr a) = inr (any_map P Q f xs a)

  pub all_zip : (P Q : A → Type 0) (xs : List A) → All P xs → All Q xs → All (λ x. P x × Q x) xs
  all_zip P Q [] h k = tt
  all_zip P Q (x ∷ xs) h k = ((h.0, k.0), all_zip P Q xs h.1 k.1)

  -- what holds of each holds of the one of which something holds
  pub all_any : (P Q : A → Type 0) (xs : List A) → All P xs → Any Q xs → (x : A) × P x × Q x
  all_any P Q [] h a = absurd a
  all_any P Q (x ∷ xs) h (inl q) = (x, h.0, q)
  all_any P Q (x ∷ xs) h (inr a) = all_any P Q xs h.1 a

  pub all_has : (P : A → Type 0) (xs : List A) → All P xs → (r : A) → Has xs r → P r
  all_has P xs h r a = let (x, p, e) = all_any P (λ x. x ≡ r) xs h a in subst P e p

  pub has_all : (xs : List A) → All (Has xs) xs
  has_all [] = tt
  has_all (x ∷ xs) = (inl refl, all_map (Has xs) (Has (x ∷ xs)) (λ y h. inr h) xs (has_all xs))

  pub part_pick : {r d : A} (xs ys : List A) {zs : List A} → Pick r (xs ++ d ∷ ys) zs → Part r d xs ys zs
  part_pick [] ys here = middle refl refl
  part_pick [] ys (there p) = behind p (inl refl)
  part_pick (x ∷ xs) ys here = ahead here refl
  part_pick (x ∷ xs) ys (there p) = on (part_pick xs ys p)
    where
      on : {r d : A} {us : List A} → Part r d xs ys us → Part r d (x ∷ xs) ys (x ∷ us)
      on (ahead q e) = ahead (there q) (ap (λ (l : List A). x ∷ l) e)
      on (middle q e) = middle q (ap (λ (l : List A). x ∷ l) e)
      on (behind q a) = behind q (inr a)
