-- Laws of the first slash and of what is left of a path: a component read makes the rest shorter. Assumes nothing.
use Rattle.std.specs.Prelude.{◌≡◌, true, false, not, List, ◌++◌, ℕ, ◌+◌, ◌≤◌, ◌<◌, length, get_or}
use Rattle.std.proofs.Common.{⊎_elim, eq-or-lt_of_le, eq-zero-or-pos, add-zero, arith, length-append, length-drop, get_or-drop, get_or-append-add, ne_eqb}
use Rattle.std.proofs.lemmas.Bool.{eqb-false, not-true}
use Rattle.seq.specs.Truth.{not_both}
use Rattle.seq.proofs.SearchLaws.{first_le, first_passes, first_upto}
use Rattle.paths.specs.Path.{is_slash, slashes, until_slash, skip, behind, bare}

-- a byte that is no slash ends the slashes
pub slashes_upto : (p : List ℕ) (k : ℕ) → k < length p → is_slash (get_or p k 0) ≡ false → slashes p ≤ k
unfolding slashes
slashes_upto p k l here = first_upto (λ k. not (is_slash (get_or p k 0))) (length p) k l (rw here)

-- some component is left exactly where the slashes at its start are not the whole path
pub more_slashes : (p : List ℕ) → bare p ≡ false → slashes p < length p
unfolding slashes
more_slashes p more = ⊎_elim (λ e. absurd (eqb-false _ _ more e)) (λ l. l) (eq-or-lt_of_le (first_le _ (length p)))

pub slashes_more : (p : List ℕ) → slashes p < length p → bare p ≡ false
slashes_more p l = ne_eqb (slashes p) (length p) (λ e. omega arith)

-- the byte behind the slashes is none; the one behind a name is
pub slashes_end : (p : List ℕ) → slashes p < length p → is_slash (get_or p (slashes p) 0) ≡ false
unfolding slashes
slashes_end p l = not-true (is_slash (get_or p (slashes p) 0)) (first_passes (λ k. not (is_slash (get_or p k 0))) (length p) l)

pub name_end : (p : List ℕ) → until_slash p < length p → is_slash (get_or p (until_slash p) 0) ≡ true
unfolding until_slash
name_end p l = first_passes (λ k. is_slash (get_or p k 0)) (length p) l

pub skip_le : (p : List ℕ) → length (skip p) ≤ length p
skip_le p = simp length-drop (omega arith)

pub behind_le : (p : List ℕ) → length (behind p) ≤ length p
behind_le p = simp length-drop (omega arith)

pub skip_more : (p : List ℕ) → bare p ≡ false → 0 < length (skip p)
skip_more p more = let l = more_slashes p more in simp length-drop (omega arith)

-- a component that is left has a byte at least
pub name_more : (p : List ℕ) → bare p ≡ false → 0 < until_slash (skip p)
name_more p more = ⊎_elim (λ e. absurd (not_both _ (starts e) ends)) (λ l. l) (eq-zero-or-pos (until_slash (skip p)))
  where
    ends : is_slash (get_or (skip p) 0 0) ≡ false
    ends = rw (get_or-drop, add-zero) (slashes_end p (more_slashes p more))

    starts : until_slash (skip p) ≡ 0 → is_slash (get_or (skip p) 0 0) ≡ true
    starts e = rw e at (name_end (skip p) (rw e (skip_more p more)))

-- what stands behind a component that others follow begins with a slash
pub behind_slash : (p : List ℕ) → bare (behind p) ≡ false → 0 < slashes (behind p)
behind_slash p more = ⊎_elim (λ e. absurd (not_both _ starts (ends e))) (λ l. l) (eq-zero-or-pos (slashes (behind p)))
  where
    left : slashes (behind p) < length (behind p)
    left = more_slashes (behind p) more

    inside : until_slash (skip p) < length (skip p)
    inside = omega (arith, left, length-drop (until_slash (skip p)) (skip p))

    starts : is_slash (get_or (behind p) 0 0) ≡ true
    starts = rw (get_or-drop, add-zero) (name_end (skip p) inside)

    ends : slashes (behind p) ≡ 0 → is_slash (get_or (behind p) 0 0) ≡ false
    ends e = rw e at (slashes_end (behind p) left)

-- so the next component and all behind it are shorter by two bytes at least: a name's and a slash
pub behind_short : (p : List ℕ) → bare p ≡ false → bare (behind p) ≡ false → length (skip (behind p)) + 2 ≤ length (skip p)
behind_short p more next =
    let a = name_more p more in
    let b = behind_slash p next in
    let c = more_slashes (behind p) next in
    simp length-drop (omega (arith, simp length-drop at c))

-- a component that is left is still left with a text ahead of it
pub bare_append : (text rest : List ℕ) → bare rest ≡ false → bare (text ++ rest) ≡ false
bare_append text rest more = slashes_more (text ++ rest) (omega (arith, upto, inside))
  where
    left : slashes rest < length rest
    left = more_slashes rest more

    inside : length text + slashes rest < length (text ++ rest)
    inside = rw length-append (omega (arith, left))

    upto : slashes (text ++ rest) ≤ length text + slashes rest
    upto = slashes_upto (text ++ rest) (length text + slashes rest) inside (rw get_or-append-add (slashes_end rest left))
