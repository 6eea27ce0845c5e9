-- What is known of a slot that a name was found in, where none was, and of slots that a search skips. Assumes nothing.
use Rattle.std.specs.Prelude.{◌≡◌, refl, true, false, ◌&&◌, List, ℕ, ◌+◌, ◌≤◌, ◌<◌, eqb}
use Rattle.std.proofs.Math.Bool.{and-false}
use Rattle.std.proofs.Common.{arith, eqb-true}
use Rattle.seq.specs.Search.{any}
use Rattle.seq.specs.Bytes.{equal_bytes}
use Rattle.seq.specs.Truth.{and_left, and_right}
use Rattle.seq.proofs.SearchLaws.{any_miss, any_false, first_le, first_passes, first_before}
use Rattle.seq.proofs.BytesLaws.{same_bytes}
use Rattle.layout.specs.View.{View, entry_used}
use Rattle.paths.specs.Lookup.{is_named, lookup}
use Rattle.paths.specs.LookupFacts.{Held, Skips}

pub lookup_held : (v : View) (d : ℕ) (name : List ℕ) (j : ℕ) → j ≡ lookup v d name → j < v.entries → Held v d name j
unfolding lookup is_named
lookup_held v d name j e below = record {
  used = and_left (entry_used v j) _ front;
  parent = eqb-true _ _ (and_right (entry_used v j) _ front);
  named = same_bytes _ _ (and_right (entry_used v j && eqb (v.parent j) d) _ here);
}
  where
    here : (entry_used v j && eqb (v.parent j) d && equal_bytes (v.name j) name) ≡ true
    here = rw e (first_passes (is_named v d name) v.entries (rw e at below))

    front : (entry_used v j && eqb (v.parent j) d) ≡ true
    front = and_left (entry_used v j && eqb (v.parent j) d) _ here

pub lookup_used : (v : View) (d : ℕ) (name : List ℕ) (j : ℕ) → j ≡ lookup v d name → j < v.entries → entry_used v j ≡ true
lookup_used v d name j e below = (lookup_held v d name j e below).used

-- where no slot was found, the answer is their number
pub lookup_none : (v : View) (d : ℕ) (name : List ℕ) → v.entries ≤ lookup v d name → lookup v d name ≡ v.entries
unfolding lookup
lookup_none v d name above = let l = first_le (is_named v d name) v.entries in omega arith

-- and then no slot holds the name
pub lookup_misses : (v : View) (d : ℕ) (name : List ℕ) → lookup v d name ≡ v.entries → any (is_named v d name) v.entries ≡ false
unfolding lookup
lookup_misses v d name e = any_false (is_named v d name) v.entries (λ k l. first_before (is_named v d name) v.entries k (rw e l))

-- slots skipped: none, one more whose entry lies elsewhere, four such, and as many as two skips together
module _ (v : View) (d : ℕ) where
  pub skip_none : (a : ℕ) → Skips v d a a
  skip_none a = record { onward = λ name none. none }

  pub skip_more : {a : ℕ} (j b : ℕ) → Skips v d a j → eqb (v.parent j) d ≡ false → b ≡ j + 1 → Skips v d a b
  unfolding is_named
  skip_more j b front other next =
      record { onward = λ name none. rw next (any_miss (is_named v d name) j (front.onward name none) (rw (other, and-false))) }

  pub skip_four : (j : ℕ) → eqb (v.parent j) d ≡ false → eqb (v.parent (j + 1)) d ≡ false → eqb (v.parent (j + 2)) d ≡ false → eqb (v.parent (j + 3)) d ≡ false
      → Skips v d j (j + 4)
  skip_four j other other₁ other₂ other₃ =
      let two : Skips v d j (j + 2) = skip_more (j + 1) (j + 2) (skip_more j (j + 1) (skip_none j) other refl) other₁ (omega arith) in
      skip_more (j + 3) (j + 4) (skip_more (j + 2) (j + 3) two other₂ (omega arith)) other₃ (omega arith)

  pub skip_join : {a b c : ℕ} → Skips v d a b → Skips v d b c → Skips v d a c
  skip_join front back = record { onward = λ name none. back.onward name (front.onward name none) }
