-- Laws of a compare by pieces: the numbers of two pieces tell whether these are the same, and the pieces whether the strings are. Assumes nothing.
use Rattle.std.specs.Prelude.{◌≡◌, ◌≢◌, Bool, true, false, ℕ, zero, suc, ◌+◌, ◌*◌, ◌-◌, ◌/◌, ◌%◌, ◌≤◌, ◌<◌, eqb, take, drop}
use Rattle.std.proofs.Math.Path.{refl, ap}
use Rattle.std.proofs.Common.{sym, ap₂, ◌∙◌, subst, add-zero, length-drop, take_all}
use mathlib.Core.List.{List}
use native.Mathlib.Omega.{arith}
use Rattle.std.proofs.Math.Decide.{dec_lt}
use Rattle.std.proofs.Math.ListN.{length, get_or}
use borrow.Author.Tests.{eqb-true, eq-eqb, ne_eqb, not-true, not-false}
use Rattle.seq.specs.Search.{any}
use Rattle.seq.proofs.SearchLaws.{any_miss, any_hit, any_not, first_hit, all_of}
use Rattle.seq.specs.Truth.{not_both, refuted}
use Rattle.seq.specs.Bytes.{part, equal_bytes}
use Rattle.seq.proofs.BytesLaws.{same_refl, same_bytes, part_length, part_byte, part_take, part_drop}
use Rattle.seq.specs.Number.{number_at}
use Rattle.seq.proofs.NumberLaws.{number_part}
use Rattle.seq.specs.Compare.{piece_size, piece_at, piece_count, piece_differs, pieces_read, Compares}

-- the same number, the same bytes
pub number_bytes_same : (k : ℕ) (xs ys : List ℕ) (i j : ℕ) → ((n : ℕ) → get_or xs n 0 < 256) → ((n : ℕ) → get_or ys n 0 < 256)
    → number_at k xs i ≡ number_at k ys j → (n : ℕ) → n < k → get_or xs (i + n) 0 ≡ get_or ys (j + n) 0
unfolding number_at
number_bytes_same zero xs ys i j f g e n l = absurd (omega arith)
number_bytes_same (suc k) xs ys i j f g e zero l = rw (add-zero, add-zero) (omega (arith, f i, g j, e))
number_bytes_same (suc k) xs ys i j f g e (suc n) l =
    let rest : number_at k xs (i + 1) ≡ number_at k ys (j + 1) = omega (arith, f i, g j, e) in
    let a : i + suc n ≡ i + 1 + n = omega arith in
    let b : j + suc n ≡ j + 1 + n = omega arith in
    rw (a, b) (number_bytes_same k xs ys (i + 1) (j + 1) f g rest n (omega arith))

-- bytes read as one number are the same exactly where the numbers are
pub number_tells : (k : ℕ) (xs ys : List ℕ) (at : ℕ) → at + k ≤ length xs → at + k ≤ length ys → ((n : ℕ) → get_or xs n 0 < 256) → ((n : ℕ) → get_or ys n 0 < 256)
    → eqb (number_at k xs at) (number_at k ys at) ≡ equal_bytes (part xs at k) (part ys at k)
unfolding equal_bytes
number_tells k xs ys at short also f g = go (eqb (number_at k xs at) (number_at k ys at)) refl
  where
    go : (b : Bool) → eqb (number_at k xs at) (number_at k ys at) ≡ b → b ≡ equal_bytes (part xs at k) (part ys at k)
    go true e =
        let equal = number_bytes_same k xs ys at at f g (eqb-true _ _ e) in
        sym (rw (eq-eqb _ _ (part_length xs at k short ∙ sym (part_length ys at k also)), part_length xs at k short)
        (all_of _ k (λ n l. eq-eqb _ _ (part_byte xs at k n l ∙ equal n l ∙ sym (part_byte ys at k n l)))))
    go false e =
        sym (refuted _ (λ s.
        let same = ap (λ zs. number_at k zs 0) (same_bytes (part xs at k) (part ys at k) s) in
        let a = rw add-zero at (number_part k xs at k 0 (omega arith)) in
        let b = rw add-zero at (number_part k ys at k 0 (omega arith)) in
        not_both (eqb (number_at k xs at) (number_at k ys at)) (eq-eqb _ _ (sym a ∙ same ∙ b)) e))

-- a part that is read from both its ends, by numbers that reach over its middle
module _ (xs ys : List ℕ) (at n k : ℕ) (least : at + k ≤ n) where
  pub ends_differ : equal_bytes (part xs at k) (part ys at k) ≡ false → equal_bytes (part xs at (n - at)) (part ys at (n - at)) ≡ false
  ends_differ other =
      refuted _ (λ s.
      let cut = ap (take k) (same_bytes (part xs at (n - at)) (part ys at (n - at)) s) in
      let first = sym (part_take xs at (n - at) k (omega arith)) ∙ cut ∙ part_take ys at (n - at) k (omega arith) in
      not_both _ (subst (λ zs. equal_bytes (part xs at k) zs ≡ true) first (same_refl (part xs at k))) other)

  module _ (most : n ≤ at + k + k) (short : n ≤ length xs) (also : n ≤ length ys) (first : equal_bytes (part xs at k) (part ys at k) ≡ true) where
    byte_of_first : (i : ℕ) → i < k → get_or xs (at + i) 0 ≡ get_or ys (at + i) 0
    byte_of_first i l = sym (part_byte xs at k i l) ∙ ap (λ zs. get_or zs i 0) (same_bytes (part xs at k) (part ys at k) first) ∙ part_byte ys at k i l

    byte_of_second : equal_bytes (part xs (n - k) k) (part ys (n - k) k) ≡ true → (i : ℕ) → k ≤ i → at + i < n → get_or xs (at + i) 0 ≡ get_or ys (at + i) 0
    byte_of_second second i from below =
        let j = at + i - (n - k) in
        let e : at + i ≡ n - k + j = omega arith in
        let l : j < k = omega arith in
        subst (λ m. get_or xs m 0 ≡ get_or ys m 0) (sym e)
        (sym (part_byte xs (n - k) k j l) ∙ ap (λ zs. get_or zs j 0) (same_bytes (part xs (n - k) k) (part ys (n - k) k) second) ∙ part_byte ys (n - k) k j l)

    byte_of_either : equal_bytes (part xs (n - k) k) (part ys (n - k) k) ≡ true → (i : ℕ) → i < n - at → Dec (i < k) → get_or xs (at + i) 0 ≡ get_or ys (at + i) 0
    byte_of_either second i l (yes below) = byte_of_first i below
    byte_of_either second i l (no above) = byte_of_second second i (omega (arith, above)) (omega arith)

    pub ends_decide : equal_bytes (part xs (n - k) k) (part ys (n - k) k) ≡ equal_bytes (part xs at (n - at)) (part ys at (n - at))
    unfolding equal_bytes
    ends_decide = go (equal_bytes (part xs (n - k) k) (part ys (n - k) k)) refl
      where
        size : (zs : List ℕ) → n ≤ length zs → length (part zs at (n - at)) ≡ n - at
        size zs room = part_length zs at (n - at) (omega arith)

        behind : (zs : List ℕ) → drop (n - k - at) (part zs at (n - at)) ≡ part zs (n - k) k
        behind zs =
            let a : at + (n - k - at) ≡ n - k = omega arith in
            let b : n - at - (n - k - at) ≡ k = omega arith in
            part_drop zs at (n - at) (n - k - at) ∙ ap₂ (part zs) a b

        go : (b : Bool) → equal_bytes (part xs (n - k) k) (part ys (n - k) k) ≡ b → b ≡ equal_bytes (part xs at (n - at)) (part ys at (n - at))
        go true e =
            sym (rw (eq-eqb _ _ (size xs short ∙ sym (size ys also)), size xs short)
            (all_of _ (n - at) (λ i l. eq-eqb _ _ (part_byte xs at (n - at) i l ∙ byte_of_either e i l (dec_lt i k) ∙ sym (part_byte ys at (n - at) i l)))))
        go false e =
            sym (refuted _ (λ s.
            let cut = ap (drop (n - k - at)) (same_bytes (part xs at (n - at)) (part ys at (n - at)) s) in
            not_both _ (subst (λ zs. equal_bytes (part xs (n - k) k) zs ≡ true) (sym (behind xs) ∙ cut ∙ behind ys) (same_refl (part xs (n - k) k))) e))

-- a part that goes past the end has no more than one that ends there
pub part_over : (xs : List ℕ) (at n m : ℕ) → length xs ≤ at + n → length xs ≤ at + m → part xs at n ≡ part xs at m
unfolding part
part_over xs at n m over also =
    take_all n (drop at xs) (rw length-drop (omega arith)) ∙ sym (take_all m (drop at xs) (rw length-drop (omega arith)))

module _ (xs ys : List ℕ) where
  pub lengths_differ : length xs ≢ length ys → Compares xs ys false 0
  unfolding equal_bytes pieces_read
  lengths_differ other = (rw (ne_eqb _ _ other), rw (ne_eqb _ _ other))

  -- where one piece differs the strings do
  piece_tells : (k : ℕ) → piece_differs xs ys k ≡ true → equal_bytes xs ys ≡ false
  piece_tells k d =
      refuted _ (λ s.
      not_both _ (subst (λ zs. equal_bytes (piece_at xs k) (piece_at zs k) ≡ true) (same_bytes xs ys s) (same_refl (piece_at xs k))) (not-true _ d))

  module _ (alike : length xs ≡ length ys) where
    -- where none does they are the same
    pieces_tell : any (piece_differs xs ys) (piece_count (length xs)) ≡ false → equal_bytes xs ys ≡ true
    unfolding equal_bytes
    pieces_tell none =
        rw (eq-eqb _ _ alike) (all_of _ (length xs) (λ i l.
        let k = i / piece_size in
        let j = i % piece_size in
        let e : i ≡ piece_size * k + j = omega arith in
        let b : j < piece_size = omega arith in
        let from = part_byte xs (piece_size * k) piece_size j b in
        let to = part_byte ys (piece_size * k) piece_size j b in
        let piece = same_bytes (piece_at xs k) (piece_at ys k) (not-false _ (any_not (piece_differs xs ys) (piece_count (length xs)) none k (omega arith))) in
        eq-eqb _ _ (subst (λ n. get_or xs n 0 ≡ get_or ys n 0) (sym e) (sym from ∙ ap (λ zs. get_or zs j 0) piece ∙ to))))

    -- the first piece that differs is the last that is read
    pub piece_differs_lem : (k : ℕ) → k < piece_count (length xs) → any (piece_differs xs ys) k ≡ false → piece_differs xs ys k ≡ true → Compares xs ys false (k + 1)
    unfolding pieces_read
    piece_differs_lem k l none d =
        (sym (piece_tells k d), rw (eq-eqb _ _ alike, any_hit (piece_differs xs ys) (piece_count (length xs)) k l d, first_hit (piece_differs xs ys) (piece_count (length xs)) k l none d))

    -- where none differs all are read
    none_differs : any (piece_differs xs ys) (piece_count (length xs)) ≡ false → Compares xs ys true (piece_count (length xs))
    unfolding pieces_read
    none_differs none = (sym (pieces_tell none), rw (eq-eqb _ _ alike, none))

    module _ (whole : ℕ) (is : whole ≡ length xs / piece_size) (none : any (piece_differs xs ys) whole ≡ false) where
      -- behind the whole pieces there is nothing, or one that is shorter
      pub nothing_left : piece_size * whole ≡ length xs → Compares xs ys true whole
      nothing_left e =
          let n : piece_count (length xs) ≡ whole = omega arith in
          subst (Compares xs ys true) n (none_differs (rw n none))

      pub last_decides : (r : Bool) → piece_size * whole ≢ length xs
          → r ≡ equal_bytes (part xs (piece_size * whole) (length xs - piece_size * whole)) (part ys (piece_size * whole) (length xs - piece_size * whole)) → Compares xs ys r (whole + 1)
      last_decides r more told = go r refl
        where
          left : piece_count (length xs) ≡ whole + 1
          left = omega (arith, more)

          piece : r ≡ equal_bytes (piece_at xs whole) (piece_at ys whole)
          piece =
              told ∙ ap₂ equal_bytes (part_over xs _ _ piece_size (omega arith) (omega arith)) (part_over ys _ _ piece_size (omega arith) (omega arith))

          go : (b : Bool) → r ≡ b → Compares xs ys r (whole + 1)
          go true e = rw e (subst (Compares xs ys true) left (none_differs (rw left (any_miss (piece_differs xs ys) whole none (rw (sym piece ∙ e))))))
          go false e = rw e (piece_differs_lem whole (omega arith) none (rw (sym piece ∙ e)))
