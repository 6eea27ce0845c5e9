-- The bytes of a component: one at least, no slash, and no zero byte where the path has none. Assumes nothing.
use Rattle.std.specs.Prelude.{◌≡◌, true, false, not, List, ◌++◌, ℕ, ◌≤◌, ◌<◌, eqb, length, get_or}
use Rattle.std.proofs.Common.{arith, length-take, get_or-take}
use Rattle.seq.specs.Bytes.{no_zero}
use Rattle.seq.proofs.SearchLaws.{first_le, first_before}
use Rattle.seq.proofs.EveryLaws.{every_take, every_drop, every_append}
use Rattle.paths.specs.Path.{is_slash, slashes, until_slash, skip, component, behind, bare}
use Rattle.paths.proofs.PathLaws.{name_more}

pub component_plain : (p : List ℕ) → no_zero p ≡ true → no_zero (component p) ≡ true
unfolding no_zero
component_plain p e =
    every_take (λ b. not (eqb b 0)) (until_slash (skip p)) (skip p) (every_drop (λ b. not (eqb b 0)) (slashes p) p e)

pub behind_plain : (p : List ℕ) → no_zero p ≡ true → no_zero (behind p) ≡ true
unfolding no_zero
behind_plain p e =
    every_drop (λ b. not (eqb b 0)) (until_slash (skip p)) (skip p) (every_drop (λ b. not (eqb b 0)) (slashes p) p e)

pub joined_plain : (text rest : List ℕ) → no_zero text ≡ true → no_zero rest ≡ true → no_zero (text ++ rest) ≡ true
unfolding no_zero
joined_plain text rest e f = every_append (λ b. not (eqb b 0)) text rest e f

name_inside : (p : List ℕ) → until_slash p ≤ length p
unfolding until_slash
name_inside p = first_le _ (length p)

pub component_slash : (p : List ℕ) (k : ℕ) → k < length (component p) → is_slash (get_or (component p) k 0) ≡ false
unfolding until_slash
component_slash p k l =
    let m = length-take (until_slash (skip p)) (skip p) in
    rw (get_or-take (until_slash (skip p)) (skip p) k 0 (omega arith)) (first_before (λ i. is_slash (get_or (skip p) i 0)) (length (skip p)) k (omega arith))

pub component_some : (p : List ℕ) → bare p ≡ false → 1 ≤ length (component p)
component_some p more = omega (arith, length-take (until_slash (skip p)) (skip p), name_more p more, name_inside (skip p))
