-- A test of every byte of a list is kept by its front, its end and a joined list. Assumes nothing.
use Rattle.std.specs.Prelude.{◌≡◌, Bool, true, List, ◌++◌, ℕ, ◌+◌, ◌-◌, ◌<◌, length, get_or, take, drop}
use Rattle.std.proofs.Math.Decide.{dec_lt}
use Rattle.std.proofs.Common.{arith, length-take, length-drop, length-append, get_or-take, get_or-drop, get_or-append-add}
use Rattle.std.proofs.Math.ListN.{get_or-append}
use Rattle.seq.proofs.SearchLaws.{all_at, all_of}
use Rattle.seq.specs.Every.{every}

module _ (p : ℕ → Bool) where
  pub every_take : (n : ℕ) (xs : List ℕ) → every p xs ≡ true → every p (take n xs) ≡ true
  every_take n xs e =
      all_of _ (length (take n xs)) (λ k l.
      let m = length-take n xs in
      rw (get_or-take n xs k 0 (omega arith)) (all_at _ (length xs) e k (omega arith)))

  pub every_drop : (n : ℕ) (xs : List ℕ) → every p xs ≡ true → every p (drop n xs) ≡ true
  every_drop n xs e =
      all_of _ (length (drop n xs)) (λ k l.
      let m = length-drop n xs in
      rw (get_or-drop n xs k 0) (all_at _ (length xs) e (n + k) (omega arith)))

  pub every_append : (xs ys : List ℕ) → every p xs ≡ true → every p ys ≡ true → every p (xs ++ ys) ≡ true
  every_append xs ys e f = all_of _ (length (xs ++ ys)) (λ k l. at k (length-append xs ys) l (dec_lt k (length xs)))
    where
      at : (k : ℕ) → length (xs ++ ys) ≡ length xs + length ys → k < length (xs ++ ys) → Dec (k < length xs) → p (get_or (xs ++ ys) k 0) ≡ true
      at k m l (yes below) = rw (get_or-append xs ys 0 k below) (all_at _ (length xs) e k below)
      at k m l (no above) =
          let i : length xs + (k - length xs) ≡ k = omega arith in
          rw (← i, get_or-append-add xs ys (k - length xs) 0) (all_at _ (length ys) f (k - length xs) (omega arith))
