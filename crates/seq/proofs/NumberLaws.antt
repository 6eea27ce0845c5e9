-- Laws of little-endian numbers: read back as written, in parts and in halves. Assumes nothing.
use Rattle.std.specs.Prelude.{◌≡◌, refl, ◌⊎◌, List, ◌∷◌, ℕ, zero, suc, ◌+◌, ◌*◌, ◌/◌, ◌%◌, ◌<◌, ◌≤◌, length, get_or}
use Rattle.std.proofs.Common.{ap, ◌∙◌, ⊎_elim, add-zero, zero-add, arith}
use Rattle.seq.specs.Bytes.{part, put}
use Rattle.seq.specs.Number.{bytes_of, number_at, span}
use Rattle.seq.proofs.BytesLaws.{part_byte, put_join, put_inside, put_before, put_after}

pub bytes_of_length : (k v : ℕ) → length (bytes_of k v) ≡ k
unfolding bytes_of
bytes_of_length zero v = refl
bytes_of_length (suc k) v = ap suc (bytes_of_length k (v / 256))

-- the same bytes, the same number
pub number_same : (k : ℕ) (xs ys : List ℕ) (i j : ℕ) → ((n : ℕ) → n < k → get_or xs (i + n) 0 ≡ get_or ys (j + n) 0) → number_at k xs i ≡ number_at k ys j
unfolding number_at
number_same zero xs ys i j f = refl
number_same (suc k) xs ys i j f =
    let head : get_or xs i 0 ≡ get_or ys j 0 = rw (add-zero, add-zero) at (f 0 (omega arith)) in
    let rest : number_at k xs (i + 1) ≡ number_at k ys (j + 1) =
    number_same k xs ys (i + 1) (j + 1) (λ n l.
    let a : i + 1 + n ≡ i + suc n = omega arith in
    let b : j + 1 + n ≡ j + suc n = omega arith in
    rw (a, b) (f (suc n) (omega arith))) in
    rw (head, rest)

-- a number in a part is a number in the list
pub number_part : (k : ℕ) (xs : List ℕ) (at n i : ℕ) → i + k ≤ n → number_at k (part xs at n) i ≡ number_at k xs (at + i)
number_part k xs at n i h =
    number_same k (part xs at n) xs i (at + i) (λ m l.
    let a : at + i + m ≡ at + (i + m) = omega arith in
    rw a (part_byte xs at n (i + m) (omega arith)))

-- four bytes are two and two, and eight are four and four
pub number_two : (xs : List ℕ) (i : ℕ) → number_at 4 xs i ≡ number_at 2 xs i + 65536 * number_at 2 xs (i + 2)
unfolding number_at
number_two xs i =
    let a : i + 1 + 1 ≡ i + 2 = omega arith in
    rw a (omega arith)

pub number_four : (xs : List ℕ) (i : ℕ) → number_at 8 xs i ≡ number_at 4 xs i + 4294967296 * number_at 4 xs (i + 4)
unfolding number_at
number_four xs i =
    let a : i + 1 + 1 + 1 + 1 ≡ i + 4 = omega arith in
    rw a (omega arith)

-- written in halves
pub put_two : (xs : List ℕ) (at v : ℕ) → put (put xs at (bytes_of 2 v)) (at + 2) (bytes_of 2 (v / 65536)) ≡ put xs at (bytes_of 4 v)
unfolding bytes_of
put_two xs at v =
    let a : v / 65536 ≡ v / 256 / 256 = omega arith in
    rw a (put_join (bytes_of 2 v) xs at (bytes_of 2 (v / 256 / 256)))

pub put_four : (xs : List ℕ) (at v : ℕ) → put (put xs at (bytes_of 4 v)) (at + 4) (bytes_of 4 (v / 4294967296)) ≡ put xs at (bytes_of 8 v)
unfolding bytes_of
put_four xs at v =
    let a : v / 4294967296 ≡ v / 256 / 256 / 256 / 256 = omega arith in
    rw a (put_join (bytes_of 4 v) xs at (bytes_of 4 (v / 256 / 256 / 256 / 256)))

-- what was written is read again
pub number_bytes : (k v : ℕ) → v < span k → number_at k (bytes_of k v) 0 ≡ v
unfolding number_at bytes_of
number_bytes zero v h = omega arith
number_bytes (suc k) v h =
    let e : number_at k (v % 256 ∷ bytes_of k (v / 256)) 1 ≡ v / 256 =
    number_same k (v % 256 ∷ bytes_of k (v / 256)) (bytes_of k (v / 256)) 1 0 (λ n l. rw (zero-add) (cons n)) ∙ number_bytes k (v / 256) (omega arith) in
    rw e (omega arith)
  where
    cons : (n : ℕ) → get_or (v % 256 ∷ bytes_of k (v / 256)) (1 + n) 0 ≡ get_or (bytes_of k (v / 256)) n 0
    cons n = let e : 1 + n ≡ suc n = omega arith in rw e

pub number_put : (k : ℕ) (xs : List ℕ) (at v : ℕ) → at + k ≤ length xs → v < span k → number_at k (put xs at (bytes_of k v)) at ≡ v
number_put k xs at v h small =
    let l : length (bytes_of k v) ≡ k = bytes_of_length k v in
    number_same k (put xs at (bytes_of k v)) (bytes_of k v) at 0 (λ n b. rw zero-add (put_inside (bytes_of k v) xs at n (omega arith) (omega arith)))
    ∙ number_bytes k v small

-- a number elsewhere stays
pub number_put_other : (k : ℕ) (xs : List ℕ) (at : ℕ) (ys : List ℕ) (i : ℕ) → (i + k ≤ at) ⊎ (at + length ys ≤ i) → number_at k (put xs at ys) i ≡ number_at k xs i
number_put_other k xs at ys i h =
    number_same k (put xs at ys) xs i i (λ n l.
    ⊎_elim (λ a. put_before ys xs at (i + n) (omega arith)) (λ a. put_after ys xs at (i + n) (omega arith)) h)
