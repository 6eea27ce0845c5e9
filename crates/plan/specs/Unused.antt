-- The bytes of a plan that rows use (rule 82). Assumes nothing.
use Rattle.std.specs.Prelude.{Bool, false, ◌&&◌, ◌||◌, List, [], ◌∷◌, ℕ, ◌+◌, leb, ltb, length}
use Rattle.plan.specs.Form.{Row, header_bytes, header_at, body_at}

-- byte j is one of the n from at on
abbrev pub in_range : ℕ → ℕ → ℕ → Bool
in_range at n j = leb at j && ltb j (at + n)

-- rule 82: row r in place i uses byte j: it is in its header, or in its body as far as that goes
unfoldable pub in_row : ℕ → Row → ℕ → Bool
in_row i r j = in_range (header_at i) header_bytes j || in_range (body_at i) (length r.body) j

-- one of the rows from place i on uses byte j
unfoldable pub in_rows : ℕ → List Row → ℕ → Bool
in_rows i [] j = false
in_rows i (r ∷ rs) j = in_row i r j || in_rows (i + 1) rs j
