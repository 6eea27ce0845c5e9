-- The record that a row covers, found from the row's offset and length. Assumes nothing.
use Rattle.std.specs.Prelude.{ℕ}
use Rattle.seq.specs.Search.{first}
use Rattle.layout.specs.declared.Shape.{Shape}
use Rattle.layout.specs.Place.{Key, records}
use Rattle.plan.specs.Fit.{covers_record, covers_section}

-- the record that n bytes from at on are; a key of no record where they are none
unfoldable pub key_at : Shape → ℕ → ℕ → Key
key_at h at n =
    let k = first (covers_section h at n) 5 in
    record { section = k; index = first (covers_record h at n k) (records h k) }
