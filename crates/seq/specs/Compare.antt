-- Two strings of bytes compared by pieces of eight, and how many pieces are read (rule 45a). A reader has to believe this file. Assumes nothing.
use Rattle.std.specs.Prelude.{◌≡◌, Bool, not, cond, List, ℕ, ◌+◌, ◌*◌, ◌/◌, eqb, length}
use Rattle.seq.specs.Search.{any, first}
use Rattle.seq.specs.Bytes.{part, equal_bytes}

-- the bytes of a piece, but for the last, which is as short as the string leaves it
abbrev pub piece_size : ℕ
piece_size = 8

abbrev pub piece_at : List ℕ → ℕ → List ℕ
piece_at xs k = part xs (piece_size * k) piece_size

-- how many pieces so many bytes have
abbrev pub piece_count : ℕ → ℕ
piece_count n = (n + 7) / piece_size

-- piece k is not the same in both
abbrev pub piece_differs : List ℕ → List ℕ → ℕ → Bool
piece_differs xs ys k = not (equal_bytes (piece_at xs k) (piece_at ys k))

-- how many numbers below n are asked: up to the first that passes and with it, or all
abbrev pub asked_up_to : (ℕ → Bool) → ℕ → ℕ
asked_up_to p n = cond (any p n) (first p n + 1) n

-- none where the lengths differ, else up to the first piece that differs and with it, or all
unfoldable pub pieces_read : List ℕ → List ℕ → ℕ
pieces_read xs ys = cond (eqb (length xs) (length ys)) (asked_up_to (piece_differs xs ys) (piece_count (length xs))) 0

-- what a compare answers: whether the two are the same, and the pieces read
abbrev pub Compares : List ℕ → List ℕ → Bool → ℕ → Type 0
Compares xs ys same pieces = (same ≡ equal_bytes xs ys) × (pieces ≡ pieces_read xs ys)
