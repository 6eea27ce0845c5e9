-- The bucket of a hash that an entry falls into: a number that its parent and its name decide. Assumes nothing.
use Rattle.std.specs.Prelude.{cond, List, ℕ, ◌+◌, ◌*◌, ◌/◌, ◌%◌}
use Rattle.seq.specs.Number.{number_at}
use Rattle.layout.specs.Fields.{entry_parent}
use Rattle.layout.specs.View.{View, entry_used}

-- how many buckets there are
abbrev pub buckets : ℕ
buckets = 2048

-- The bucket of a parent and of six pieces of four bytes. The weights are odd numbers without a pattern in their bits: those of the pieces below 2^29, so that no
-- sum wraps; the parent's near 0.618 of 2^38, so that the same name in one directory after the other falls into buckets far apart. No proof depends on
-- which they are.
unfoldable pub mix : ℕ → ℕ → ℕ → ℕ → ℕ → ℕ → ℕ → ℕ
mix p a b c d f g =
    (169887418117 * p + 485705883 * a + 455026109 * b + 297635077 * c + 338131279 * d + 276088621 * f + 306404477 * g) / 134217728 % buckets

-- the same of a record's bytes
unfoldable pub mixed_of : List ℕ → ℕ
mixed_of r = mix (entry_parent r) (number_at 4 r 8) (number_at 4 r 12) (number_at 4 r 16) (number_at 4 r 20) (number_at 4 r 24) (number_at 4 r 28)

-- the bucket of a parent and the first 24 bytes of a name
unfoldable pub bucket_of : ℕ → List ℕ → ℕ
bucket_of parent name = mix parent (number_at 4 name 0) (number_at 4 name 4) (number_at 4 name 8) (number_at 4 name 12) (number_at 4 name 16) (number_at 4 name 20)

-- the bucket of an entry; a free one has none
unfoldable pub bucket_at : View → ℕ → ℕ
bucket_at v j = cond (entry_used v j) (bucket_of (v.parent j) (v.name j)) buckets
