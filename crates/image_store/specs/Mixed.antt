-- An image of which every record but the journal's is as in one or as in the other of two. Assumes nothing.
use Rattle.std.specs.Prelude.{◌≡◌, ◌≢◌, ◌⊎◌, List, ℕ}
use Rattle.layout.specs.declared.Shape.{Shape}
use Rattle.layout.specs.Place.{Key}
use Rattle.plan.specs.Write.{journal_key}
use Rattle.image_store.specs.Image.{record_of}

-- x, of s and t
pub record Mixed (h : Shape) (s t x : List ℕ) : Type 0 where
  pub either : (k : Key) → k ≢ journal_key → (record_of h x k ≡ record_of h s k) ⊎ (record_of h x k ≡ record_of h t k)
