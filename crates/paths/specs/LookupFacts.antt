-- What a lookup knows of the entry that it found, and of those that it passed over. Assumes nothing.
use Rattle.std.specs.Prelude.{◌≡◌, true, false, List, ℕ}
use Rattle.seq.specs.Search.{any}
use Rattle.layout.specs.View.{View, entry_used}
use Rattle.paths.specs.Lookup.{is_named}

-- What holds of a slot that a name was found in.
pub record Held (v : View) (d : ℕ) (name : List ℕ) (j : ℕ) : Type 0 where
  pub used : entry_used v j ≡ true
  pub parent : v.parent j ≡ d
  pub named : v.name j ≡ name

-- Whatever the name, a search of directory d that has come to slot a may go on at slot b: none between holds it.
pub record Skips (v : View) (d a b : ℕ) : Type 0 where
  pub onward : (name : List ℕ) → any (is_named v d name) a ≡ false → any (is_named v d name) b ≡ false
