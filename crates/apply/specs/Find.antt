-- One of a section's records, and shapes whose places no sum passes: the terms in which the covered record is searched. Assumes nothing.
use Rattle.std.specs.Prelude.{Bool, ◌&&◌, ℕ, ◌+◌, ◌*◌, ◌≤◌, eqb}
use Rattle.seq.specs.Search.{any}
use Rattle.layout.specs.declared.Shape.{Shape}
use Rattle.layout.specs.Place.{image_bytes}

-- n bytes from at on are one of count records of width bytes each, the first of them at start
unfoldable pub one_of : ℕ → ℕ → ℕ → ℕ → ℕ → Bool
one_of start width count at n = any (λ i. eqb at (start + width * i) && eqb n width) count

-- A shape whose places no sum of an index's type passes.
pub record Bounded (h : Shape) : Type 0 where
  pub width_least : 1 ≤ h.width
  pub image_most : image_bytes h ≤ 131072
