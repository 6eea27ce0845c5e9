-- Laws of entries that clash: what two of them share, and that any such pair is a duplicate. Assumes nothing.
use Rattle.std.specs.Prelude.{◌≡◌, true, List, ◌≢◌, ℕ, ◌<◌}
use Rattle.std.proofs.Math.Path.{refl}
use Rattle.std.proofs.Math.Decide.{dec_lt}
use Rattle.std.proofs.Common.{arith}
use borrow.Author.Tests.{eqb-true, eq-eqb}
use Rattle.seq.proofs.BytesLaws.{same_bytes, same_refl}
use Rattle.seq.proofs.SearchLaws.{any_hit}
use Rattle.seq.specs.Truth.{and_left, and_right}
use Rattle.layout.specs.declared.Shape.{Shape}
use Rattle.layout.specs.View.{View, view_of, entry_used}
use Rattle.names.specs.Name.{clash}
use Rattle.names.specs.NameTests.{has_duplicate}

-- both are in use, and share parent and name
module _ (v : View) (i j : ℕ) (e : clash v i j ≡ true) where
  pub clash_first : entry_used v i ≡ true
  unfolding clash
  clash_first = search (and_left, and_right)

  pub clash_second : entry_used v j ≡ true
  unfolding clash
  clash_second = search (and_left, and_right)

  pub clash_parent : v.parent i ≡ v.parent j
  unfolding clash
  clash_parent = eqb-true _ _ (search (and_left, and_right))

  pub clash_name : v.name i ≡ v.name j
  unfolding clash
  clash_name = same_bytes _ _ (search (and_left, and_right))

  -- which of them is named first does not matter
  clash_sym : clash v j i ≡ true
  unfolding clash
  clash_sym = rw (clash_first, clash_second, clash_parent, clash_name, eq-eqb (v.parent j) _ refl, same_refl (v.name j))

-- the search looks at each pair with the later entry last; here either may be
pub clash_found : (h : Shape) (s : List ℕ) (i j : ℕ) → i < h.entries → j < h.entries → i ≢ j → clash (view_of h s) i j ≡ true
    → has_duplicate (view_of h s) ≡ true
unfolding has_duplicate view_of
clash_found h s i j u w apart e = go (dec_lt i j)
  where
    go : Dec (i < j) → has_duplicate (view_of h s) ≡ true
    go (yes l) = any_hit _ _ j w (any_hit _ _ i l e)
    go (no l) = any_hit _ _ i u (any_hit _ _ j (omega arith) (clash_sym (view_of h s) i j e))
