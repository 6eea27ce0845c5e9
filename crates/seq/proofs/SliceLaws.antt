-- What slice methods and conversions of numbers give, in the words of ranges of bytes. Assumes nothing.
use Rattle.std.specs.Prelude.{◌≡◌, refl, Bool, true, false, ◌&&◌, List, [], ◌∷◌, ◌++◌, ℕ, zero, suc, ◌+◌, ◌*◌, ◌-◌, ◌/◌, ◌≤◌, eqb, length, get_or, take, drop}
use Rattle.std.specs.Int.{w16, w32, w64, from_le_bytes, to_le_bytes}
use Rattle.std.specs.List.{list_all}
use Rattle.std.specs.Simd.{first_chunks}
use Rattle.std.proofs.Common.{subst, sym, zero-add, ap, ap₂, ◌∙◌, arith, get_or-drop, get_or-take, length-drop, length-take, eq-eqb}
use Rattle.std.specs.Cmp.Lexicographic.{same_text}
use Rattle.std.proofs.lemmas.Slice.{put_mid-paste}
use borrow.Rule.Slice.PartMut.{put_mid}
use lib.Seq.{take-length}
use lib.Pointwise.{pointwise}
use Rattle.seq.specs.Search.{all}
use Rattle.seq.specs.Bytes.{part, put, zeros, equal_bytes}
use Rattle.seq.specs.Number.{number_at, bytes_of}
use Rattle.seq.specs.Truth.{one_truth}
use Rattle.seq.proofs.SearchLaws.{all_same}
use Rattle.seq.proofs.BytesLaws.{put_eq, same_bytes, same_refl}
use Rattle.seq.proofs.ZeroLaws.{zeros_split, number_zero}
use Rattle.seq.proofs.NumberLaws.{number_part}
use Rattle.seq.proofs.ChainLaws.{all_list}

-- after `d[at..at + k].copy_from_slice(zs)`
pub put_range : (xs : List ℕ) (at k : ℕ) (ys zs : List ℕ) → ys ≡ zs → length zs ≡ k → at + length zs ≤ length xs → put_mid at k xs ys ≡ put xs at zs
put_range xs at k ys zs e l h = put_mid-paste at k xs ys zs (length zs) e l refl ∙ rw take-length (sym (put_eq xs at zs h))

-- after `d[..k].copy_from_slice(zs)`
pub put_up_to : (xs ys zs : List ℕ) → ys ≡ zs → length zs ≤ length xs → ys ++ drop (length zs) xs ≡ put xs 0 zs
put_up_to xs ys zs e h = rw e (sym (rw zero-add at (put_eq xs 0 zs (omega arith))))

-- `==` of two slices
pointwise_refl : (xs : List ℕ) → pointwise eqb xs xs ≡ true
pointwise_refl [] = refl
pointwise_refl (x ∷ xs) = rw (eq-eqb x x refl) (pointwise_refl xs)

pub equal_pointwise : (xs ys : List ℕ) → pointwise eqb xs ys ≡ equal_bytes xs ys
equal_pointwise xs ys =
    one_truth _ _ (λ e. subst (λ zs. equal_bytes xs zs ≡ true) (same_text xs ys (sym e)) (same_refl xs))
    (λ e. subst (λ zs. pointwise eqb xs zs ≡ true) (same_bytes xs ys e) (pointwise_refl xs))

-- `from_le_bytes` of bytes that were read at an index
two : (xs : List ℕ) → from_le_bytes w16 xs ≡ number_at 2 xs 0
unfolding number_at
two xs = omega arith

four : (xs : List ℕ) → from_le_bytes w32 xs ≡ number_at 4 xs 0
unfolding number_at
four xs = omega arith

eight : (xs : List ℕ) → from_le_bytes w64 xs ≡ number_at 8 xs 0
unfolding number_at
eight xs = omega arith

module _ (xs : List ℕ) (at : ℕ) where
  from_part : (k : ℕ) → number_at k (part xs at k) 0 ≡ number_at k xs at
  from_part k = let e : at + 0 ≡ at = omega arith in number_part k xs at k 0 (omega arith) ∙ ap (number_at k xs) e

  pub read_two : from_le_bytes w16 (part xs at 2) ≡ number_at 2 xs at
  read_two = two (part xs at 2) ∙ from_part 2

  pub read_four : from_le_bytes w32 (part xs at 4) ≡ number_at 4 xs at
  read_four = four (part xs at 4) ∙ from_part 4

  pub read_eight : from_le_bytes w64 (part xs at 8) ≡ number_at 8 xs at
  read_eight = eight (part xs at 8) ∙ from_part 8

-- `to_le_bytes`, and its front
pub write_two : (v : ℕ) → take 2 (to_le_bytes w64 v) ≡ bytes_of 2 v
unfolding bytes_of
write_two v = refl

pub write_eight : (v : ℕ) → to_le_bytes w64 v ≡ bytes_of 8 v
unfolding bytes_of
write_eight v =
    let a : v / 65536 ≡ v / 256 / 256 = omega arith in
    let b : v / 16777216 ≡ v / 256 / 256 / 256 = omega arith in
    let c : v / 4294967296 ≡ v / 256 / 256 / 256 / 256 = omega arith in
    let d : v / 1099511627776 ≡ v / 256 / 256 / 256 / 256 / 256 = omega arith in
    let e : v / 281474976710656 ≡ v / 256 / 256 / 256 / 256 / 256 / 256 = omega arith in
    let f : v / 72057594037927936 ≡ v / 256 / 256 / 256 / 256 / 256 / 256 / 256 = omega arith in
    rw (a, b, c, d, e, f)

-- a part that is zero, read from its own front
module _ (xs : List ℕ) where
  zeros_drop : (m n : ℕ) → zeros (drop m xs) 0 n ≡ zeros xs m n
  unfolding zeros
  zeros_drop m n =
      all_same _ _ n (λ k l. let e : 0 + k ≡ k = omega arith in ap (λ b. eqb b 0) (ap (λ j. get_or (drop m xs) j 0) e ∙ get_or-drop m xs k 0))

  zeros_take : (m n : ℕ) → n ≤ m → zeros (take m xs) 0 n ≡ zeros xs 0 n
  unfolding zeros
  zeros_take m n h = all_same _ _ n (λ k l. ap (λ b. eqb b 0) (get_or-take m xs (0 + k) 0 (omega arith)))

-- Zeros read eight at a time: all of the pieces that `as_chunks` makes are 0, and so is each byte of what is left.
abbrev pub zero_piece : List ℕ → Bool
zero_piece p = eqb (from_le_bytes w64 p) 0

abbrev pub zero_byte : ℕ → Bool
zero_byte b = eqb b 0

pieces : (m : ℕ) (xs : List ℕ) → list_all zero_piece (first_chunks 8 m xs) ≡ zeros xs 0 (8 * m)
unfolding zeros all
pieces zero xs = refl
pieces (suc m) xs =
    let e : 8 * suc m ≡ 8 + 8 * m = omega arith in
    ap₂ ◌&&◌ (ap (λ n. eqb n 0) (eight (take 8 xs)) ∙ number_zero 8 (take 8 xs) 0 ∙ zeros_take xs 8 8 (omega arith))
    (pieces m (drop 8 xs) ∙ zeros_drop xs 8 (8 * m)) ∙ sym (rw e (zeros_split xs 0 8 (8 * m)))

rest : (xs : List ℕ) (m : ℕ) → list_all zero_byte (drop m xs) ≡ zeros xs m (length xs - m)
unfolding zeros
rest xs m =
    all_list zero_byte 0 (drop m xs) ∙ rw (length-drop m xs) (all_same _ _ (length xs - m) (λ k l. ap zero_byte (get_or-drop m xs k 0)))

-- both of them, of all of a list
abbrev pub pieces_of : List ℕ → List (List ℕ)
pieces_of xs = first_chunks 8 (length xs / 8) xs

abbrev pub bytes_behind : List ℕ → List ℕ
bytes_behind xs = drop (length xs / 8 * 8) xs

by_pieces : (xs : List ℕ) → (list_all zero_piece (pieces_of xs) && list_all zero_byte (bytes_behind xs)) ≡ zeros xs 0 (length xs)
by_pieces xs =
    let m : length xs / 8 * 8 ≡ 8 * (length xs / 8) = omega arith in
    let e : 8 * (length xs / 8) + (length xs - 8 * (length xs / 8)) ≡ length xs = omega arith in
    ap₂ ◌&&◌ (pieces (length xs / 8) xs) (rest xs (length xs / 8 * 8))
    ∙ rw m (sym (rw (e, zero-add) at (zeros_split xs 0 (8 * (length xs / 8)) (length xs - 8 * (length xs / 8)))))

module _ (xs : List ℕ) (at n : ℕ) (h : at + n ≤ length xs) where
  -- the part as the code takes it
  abbrev pub taken : List ℕ
  taken = take (at + n - at) (drop at xs)

  of_taken : (list_all zero_piece (pieces_of taken) && list_all zero_byte (bytes_behind taken)) ≡ zeros xs at n
  of_taken =
      let e : at + n - at ≡ n = omega arith in
      let l : length (take n (drop at xs)) ≡ n = omega (arith, length-take n (drop at xs), length-drop at xs) in
      by_pieces taken ∙ rw (e, l) (zeros_take (drop at xs) n n (omega arith) ∙ zeros_drop xs at n)

  -- the pieces are zero, so the bytes behind them decide; or they are not
  pub zeros_then : {r q : Bool} → r ≡ list_all zero_piece (pieces_of taken) → r ≡ true → q ≡ list_all zero_byte (bytes_behind taken) → q ≡ zeros xs at n
  zeros_then e z f = f ∙ (rw (sym e ∙ z) at of_taken)

  pub zeros_else : {r : Bool} → r ≡ list_all zero_piece (pieces_of taken) → r ≡ false → r ≡ zeros xs at n
  zeros_else e z = z ∙ (rw (sym e ∙ z) at of_taken)
