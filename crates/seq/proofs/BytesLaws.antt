-- Laws of ranges of bytes: what is read back from a part that was written, and what stays. Assumes nothing.
use Rattle.std.specs.Prelude.{◌≡◌, refl, ◌⊎◌, true, List, [], ◌∷◌, ◌++◌, ℕ, zero, suc, ◌+◌, ◌-◌, ◌<◌, ◌≤◌, eqb, length, get_or, take, drop, set, replicate}
use Rattle.std.proofs.Common.{sym, ap, ◌∙◌, ⊎_elim, append-nil, add-zero, zero-add, not-suc-le-zero, le_of_suc-le-suc, lt_irrefl, add-one, arith, length-set, length-take, length-drop, length-append, drop_of_length-le, get_or-set_same, get_or-set_other, take-suc, length-take-le, ext_get_or, get_or-take, get_or-drop, take-take, eqb-true, eq-eqb}
use Rattle.std.proofs.Math.Nat.{add-sub_cancel_left}
use Rattle.std.proofs.lemmas.List.{length-replicate, get_or-replicate, replicate-append-replicate}
use Rattle.std.proofs.lemmas.List.Edits.{sets-eq}
use Rattle.std.proofs.Math.Seq.{length-sets}
use Rattle.seq.specs.Bytes.{part, put, equal_bytes, zeros}
use Rattle.seq.specs.Truth.{and_left, and_right}
use Rattle.seq.proofs.SearchLaws.{all_at, all_of, all_same}

-- the test says that they are equal
pub same_refl : (xs : List ℕ) → equal_bytes xs xs ≡ true
unfolding equal_bytes
same_refl xs = rw (eq-eqb (length xs) _ refl) (all_of _ (length xs) (λ k l. eq-eqb (get_or xs k 0) _ refl))

pub same_bytes : (xs ys : List ℕ) → equal_bytes xs ys ≡ true → xs ≡ ys
unfolding equal_bytes
same_bytes xs ys e =
    ext_get_or 0 xs ys (eqb-true _ _ (and_left (eqb (length xs) (length ys)) _ e))
    (λ k l. eqb-true _ _ (all_at _ (length xs) (and_right (eqb (length xs) (length ys)) _ e) k l))

pub part_length : (xs : List ℕ) (at n : ℕ) → at + n ≤ length xs → length (part xs at n) ≡ n
unfolding part
part_length xs at n h = simp (length-take, length-drop) (omega arith)

-- a part as the code takes it, `&xs[at..at + n]`
pub part_range : (xs : List ℕ) (at n : ℕ) → take (at + n - at) (drop at xs) ≡ part xs at n
unfolding part
part_range xs at n = rw add-sub_cancel_left

-- a byte of a part is a byte of the list
pub part_byte : (xs : List ℕ) (at n k : ℕ) → k < n → get_or (part xs at n) k 0 ≡ get_or xs (at + k) 0
unfolding part
part_byte xs at n k h = rw (get_or-take, get_or-drop)

-- a part of a part
pub part_take : (xs : List ℕ) (at n k : ℕ) → k ≤ n → take k (part xs at n) ≡ part xs at k
unfolding part
part_take xs at n k h = take-take k n (drop at xs) h

pub part_drop : (xs : List ℕ) (at n k : ℕ) → drop k (part xs at n) ≡ part xs (at + k) (n - k)
unfolding part
part_drop xs at n k =
    ext_get_or 0 _ _ (simp (length-take, length-drop) (omega arith)) (λ i b.
    let l : i < n - k = omega (arith, simp (length-take, length-drop) at b) in
    simp get_or-drop (get_or-take n (drop at xs) (k + i) 0 (omega arith) ∙ get_or-drop at xs (k + i) 0
    ∙ (let e : at + (k + i) ≡ at + k + i = omega arith in rw e (sym (get_or-take (n - k) (drop (at + k) xs) i 0 l ∙ get_or-drop (at + k) xs i 0)))))

pub put_none : (xs : List ℕ) (at : ℕ) → put xs at [] ≡ xs
unfolding put
put_none xs at = refl

pub put_one : (xs : List ℕ) (at y : ℕ) → put xs at (y ∷ []) ≡ set xs at y
unfolding put
put_one xs at y = refl

pub put_length : (xs : List ℕ) (at : ℕ) (ys : List ℕ) → length (put xs at ys) ≡ length xs
unfolding put
put_length xs at ys = length-sets xs at ys

pub put_join : (ys xs : List ℕ) (at : ℕ) (zs : List ℕ) → put (put xs at ys) (at + length ys) zs ≡ put xs at (ys ++ zs)
unfolding put
put_join [] xs at zs = rw add-zero
put_join (y ∷ ys) xs at zs =
    let e : at + suc (length ys) ≡ suc at + length ys = omega arith in
    rw e (put_join ys (set xs at y) (suc at) zs)

pub put_before : (ys xs : List ℕ) (at j : ℕ) → j < at → get_or (put xs at ys) j 0 ≡ get_or xs j 0
unfolding put
put_before [] xs at j h = refl
put_before (y ∷ ys) xs at j h =
    put_before ys (set xs at y) (suc at) j (omega arith)
    ∙ get_or-set_other xs at j y 0 (λ e. lt_irrefl at (rw e at h))

pub put_after : (ys xs : List ℕ) (at j : ℕ) → at + length ys ≤ j → get_or (put xs at ys) j 0 ≡ get_or xs j 0
unfolding put
put_after [] xs at j h = refl
put_after (y ∷ ys) xs at j h =
    put_after ys (set xs at y) (suc at) j (omega arith)
    ∙ get_or-set_other xs at j y 0 (λ e. omega arith)

pub put_inside : (ys xs : List ℕ) (at k : ℕ) → at + length ys ≤ length xs → k < length ys → get_or (put xs at ys) (at + k) 0 ≡ get_or ys k 0
unfolding put
put_inside [] xs at k h l = absurd (not-suc-le-zero l)
put_inside (y ∷ ys) xs at zero h l =
    rw add-zero (put_before ys (set xs at y) (suc at) at (omega arith) ∙ get_or-set_same xs at y 0 (omega arith))
put_inside (y ∷ ys) xs at (suc k) h l =
    let e : at + suc k ≡ suc at + k = omega arith in
    rw e (put_inside ys (set xs at y) (suc at) k (rw length-set (omega arith)) (le_of_suc-le-suc l))

-- a turn of a loop that copies s over xs from index at on
pub put_more : (xs : List ℕ) (at : ℕ) (s : List ℕ) (k : ℕ) → k < length s → set (put xs at (take k s)) (at + k) (get_or s k 0) ≡ put xs at (take (k + 1) s)
put_more xs at s k h =
    let l : length (take k s) ≡ k = length-take-le k s (omega arith) in
    rw (add-one, take-suc s k 0 h, ← put_join, l, put_one)

-- the part that was written is what was put there; a part elsewhere is as before
pub put_part : (xs : List ℕ) (at : ℕ) (ys : List ℕ) → at + length ys ≤ length xs → part (put xs at ys) at (length ys) ≡ ys
put_part xs at ys h =
    let l : at + length ys ≤ length (put xs at ys) = rw put_length h in
    let m : length (part (put xs at ys) at (length ys)) ≡ length ys = part_length _ at (length ys) l in
    ext_get_or 0 _ _ m (λ k b.
    let b' : k < length ys = omega arith in
    rw (part_byte (put xs at ys) at (length ys) k b') (put_inside ys xs at k h b'))

pub put_part_other : (xs : List ℕ) (at : ℕ) (ys : List ℕ) (i n : ℕ) → (i + n ≤ at) ⊎ (at + length ys ≤ i) → part (put xs at ys) i n ≡ part xs i n
unfolding part
put_part_other xs at ys i n h =
    let m : length (take n (drop i (put xs at ys))) ≤ n = simp length-take (omega arith) in
    ext_get_or 0 _ _ (simp (length-take, length-drop, put_length)) (λ k b.
    let b' : k < n = omega arith in
    simp (get_or-take, get_or-drop)
    (⊎_elim (λ a. put_before ys xs at (i + k) (omega arith)) (λ a. put_after ys xs at (i + k) (omega arith)) h))

pub zeros_put_other : (xs : List ℕ) (at : ℕ) (ys : List ℕ) (i n : ℕ) → (i + n ≤ at) ⊎ (at + length ys ≤ i) → zeros (put xs at ys) i n ≡ zeros xs i n
unfolding zeros
zeros_put_other xs at ys i n h =
    all_same _ _ n (λ k l. ap (λ (x : ℕ). eqb x 0)
    (⊎_elim (λ a. put_before ys xs at (i + k) (omega arith)) (λ a. put_after ys xs at (i + k) (omega arith)) h))

pub zeros_replicate : (n i m : ℕ) → i + m ≤ n → zeros (replicate n 0) i m ≡ true
unfolding zeros
zeros_replicate n i m l = all_of _ m (λ k b. eq-eqb _ _ (get_or-replicate n (i + k) 0 0 (omega arith)))

-- the list in three parts
pub put_eq : (xs : List ℕ) (at : ℕ) (ys : List ℕ) → at + length ys ≤ length xs → put xs at ys ≡ take at xs ++ ys ++ drop (at + length ys) xs
unfolding put
put_eq xs at ys h = sets-eq ys xs at h

-- bytes put over all of the list
pub put_whole : (xs ys : List ℕ) → length xs ≡ length ys → put xs 0 ys ≡ ys
put_whole xs ys e =
    put_eq xs 0 ys (omega arith) ∙ ap (λ (zs : List ℕ). ys ++ zs) (drop_of_length-le xs {i = 0 + length ys} (omega arith)) ∙ append-nil ys

-- bytes put into the front of a list that is longer
set_front : (ys zs : List ℕ) (at y : ℕ) → at < length ys → set (ys ++ zs) at y ≡ set ys at y ++ zs
set_front [] zs at y l = absurd (not-suc-le-zero l)
set_front (x ∷ ys) zs zero y l = refl
set_front (x ∷ ys) zs (suc at) y l = ap (λ (xs : List ℕ). x ∷ xs) (set_front ys zs at y (le_of_suc-le-suc l))

pub put_front : (us ys zs : List ℕ) (at : ℕ) → at + length us ≤ length ys → put (ys ++ zs) at us ≡ put ys at us ++ zs
unfolding put
put_front [] ys zs at h = refl
put_front (u ∷ us) ys zs at h =
    ap (λ (xs : List ℕ). put xs (suc at) us) (set_front ys zs at u (omega arith))
    ∙ put_front us (set ys at u) zs (suc at) (rw length-set (omega arith))

-- bytes put into what was put into the front
pub put_within : (xs ys : List ℕ) (at : ℕ) (us : List ℕ) → length ys ≤ length xs → at + length us ≤ length ys
    → put (put xs 0 ys) at us ≡ put xs 0 (put ys at us)
put_within xs ys at us l h =
    let e : length (put ys at us) ≡ length ys = put_length ys at us in
    ap (λ (zs : List ℕ). put zs at us) (put_eq xs 0 ys (omega arith)) ∙ put_front us ys (drop (0 + length ys) xs) at h
    ∙ ap (λ (n : ℕ). put ys at us ++ drop (0 + n) xs) (sym e) ∙ sym (put_eq xs 0 (put ys at us) (omega arith))

-- a turn of a loop that clears xs from the front
pub put_zero : (xs : List ℕ) (k : ℕ) → set (put xs 0 (replicate k 0)) k 0 ≡ put xs 0 (replicate (k + 1) 0)
put_zero xs k =
    let e : 0 + length (replicate {A = ℕ} k 0) ≡ k = zero-add _ ∙ length-replicate k 0 in
    sym (put_one _ k 0) ∙ ap (λ (n : ℕ). put (put xs 0 (replicate k 0)) n (0 ∷ [])) (sym e)
    ∙ put_join (replicate k 0) xs 0 (0 ∷ []) ∙ ap (λ (zs : List ℕ). put xs 0 zs) (replicate-append-replicate k 1 0)

pub take_zeros : (n m : ℕ) → n ≤ m → take {A = ℕ} n (replicate m 0) ≡ replicate n 0
take_zeros zero m l = refl
take_zeros (suc n) zero l = absurd (not-suc-le-zero l)
take_zeros (suc n) (suc m) l = ap (λ (zs : List ℕ). 0 ∷ zs) (take_zeros n m (le_of_suc-le-suc l))

drop_zeros : (n m : ℕ) → drop {A = ℕ} n (replicate m 0) ≡ replicate (m - n) 0
drop_zeros n m =
    ext_get_or 0 _ _ (simp (length-drop, length-replicate)) (λ k b.
    let l : k < m - n = omega (arith, length-drop n (replicate {A = ℕ} m 0), length-replicate {A = ℕ} m 0) in
    simp get_or-drop (get_or-replicate m (n + k) 0 0 (omega arith) ∙ sym (get_or-replicate (m - n) k 0 0 l)))

-- bytes put over zeros from the front
pub put_zeros : (n : ℕ) (ys : List ℕ) → length ys ≤ n → put (replicate n 0) 0 ys ≡ ys ++ replicate (n - length ys) 0
put_zeros n ys h =
    let r : 0 + length ys ≤ length (replicate {A = ℕ} n 0) = rw length-replicate (omega arith) in
    put_eq (replicate n 0) 0 ys r ∙ rw (zero-add, drop_zeros)

-- and others behind them
pub put_zeros_join : (n : ℕ) (ys zs : List ℕ) → length ys + length zs ≤ n → put (put (replicate n 0) 0 ys) (length ys) zs ≡ ys ++ zs ++ replicate (n - length ys - length zs) 0
put_zeros_join n ys zs h =
    let a : length (ys ++ zs) ≡ length ys + length zs = length-append ys zs in
    let b : n - length (ys ++ zs) ≡ n - length ys - length zs = omega arith in
    ap (λ (k : ℕ). put (put (replicate n 0) 0 ys) k zs) (sym (zero-add (length ys))) ∙ put_join ys (replicate n 0) 0 zs ∙ put_zeros n (ys ++ zs) (omega arith)
    ∙ ap (λ (k : ℕ). ys ++ zs ++ replicate k 0) b
