-- Laws of the pieces of a name: read from its entry's record, where zeros follow it, or from the name alone, they are the same numbers. Assumes nothing.
use Rattle.std.specs.Prelude.{◌≡◌, true, List, ℕ, ◌+◌, ◌-◌, ◌≤◌, ◌<◌}
use Rattle.std.proofs.Math.Path.{sym}
use Rattle.std.proofs.Common.{◌∙◌, lit<}
use Rattle.std.proofs.Math.Decide.{dec_lt}
use native.Mathlib.Omega.{arith}
use Rattle.std.proofs.Math.Dec.{eqb}
use Rattle.std.proofs.Math.ListN.{length, get_or, get_or-eq_default}
use borrow.Author.Tests.{eqb-true}
use Rattle.seq.specs.Bytes.{part, zeros}
use Rattle.seq.proofs.BytesLaws.{part_byte, part_length}
use Rattle.seq.specs.Number.{number_at}
use Rattle.seq.proofs.NumberLaws.{number_same}
use Rattle.seq.proofs.SearchLaws.{all_at}
use Rattle.layout.specs.declared.Shape.{Shape}
use Rattle.layout.specs.Facts.{Laid}
use Rattle.layout.proofs.RecordLaws.{record_length}
use Rattle.layout.specs.View.{view_of, entry_at, entry_used}
use Rattle.names.specs.NameTests.{Named}

-- a record r of w bytes with a name of n bytes
module _ (r : List ℕ) (n w : ℕ) (long : length r ≡ w) (fits : 8 + n ≤ w) (pad : zeros r (8 + n) (w - 8 - n) ≡ true) where
  byte : (k : ℕ) → 8 + k < w → get_or r (8 + k) 0 ≡ get_or (part r 8 n) k 0
  unfolding zeros
  byte k l = go (dec_lt k n)
    where
      go : Dec (k < n) → get_or r (8 + k) 0 ≡ get_or (part r 8 n) k 0
      go (yes b) = sym (part_byte r 8 n k b)
      go (no b) =
          let e : 8 + n + (k - n) ≡ 8 + k = omega arith in
          let z : get_or r (8 + n + (k - n)) 0 ≡ 0 = eqb-true _ _ (all_at (λ m. eqb (get_or r (8 + n + m) 0) 0) (w - 8 - n) pad (k - n) (omega arith)) in
          let m : length (part r 8 n) ≡ n = part_length r 8 n (omega arith) in
          (rw e at z) ∙ sym (get_or-eq_default (part r 8 n) 0 (omega arith))

  piece : (q k : ℕ) → 8 + k + q ≤ w → number_at q r (8 + k) ≡ number_at q (part r 8 n) k
  piece q k l =
      number_same q r (part r 8 n) (8 + k) k (λ m b.
      let e : 8 + k + m ≡ 8 + (k + m) = omega arith in
      rw e (byte (k + m) (omega arith)))

-- the q bytes from k on of the name of an entry in use
pub name_piece : (h : Shape) (s : List ℕ) (j q k : ℕ) → Laid h s → Named h s → j < h.entries → entry_used (view_of h s) j ≡ true → 8 + k + q ≤ 32
    → number_at q (entry_at h s j) (8 + k) ≡ number_at q ((view_of h s).name j) k
unfolding view_of
name_piece h s j q k laid named below used inside =
    let l = record_length h s 1 j laid.long (lit< tt) below in
    let w = laid.width_least in
    piece _ _ _ l (named.fits j below) (named.padded j below used) q k (omega arith)
