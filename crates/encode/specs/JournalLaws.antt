-- The journal record is read back as it was written. Assumes nothing.
use Rattle.std.specs.Prelude.{◌≡◌, refl, true, length, replicate}
use Rattle.std.proofs.Common.{arith}
use Rattle.seq.specs.Search.{all}
use Rattle.seq.specs.Bytes.{put, zeros}
use Rattle.seq.specs.Number.{number_at, bytes_of}
use Rattle.seq.proofs.BytesLaws.{put_zeros_join}
use Rattle.seq.proofs.NumberLaws.{number_bytes}
use Rattle.layout.specs.Fields.{journal_old_slot, journal_new_slot, journal_moved, journal_replaced, journal_old_parent, journal_text, journal_time}
use Rattle.encode.specs.declared.journal.Journal.{Journal}
use Rattle.encode.specs.Facts.{InRange}
use Rattle.encode.specs.Journal.{journal_bytes, journal_formed, journal_head, journal_of}

-- its bytes put over zeros
pub journal_put : (j : Journal) → put (put (replicate 32 0) 0 (journal_head j)) 16 (bytes_of 8 j.time) ≡ journal_bytes j
unfolding journal_bytes journal_head bytes_of
journal_put j = put_zeros_join 32 (journal_head j) (bytes_of 8 j.time) (omega arith)

pub journal_length : (j : Journal) → length (journal_bytes j) ≡ 32
unfolding journal_bytes journal_head bytes_of
journal_length j = refl

pub journal_formed_lem : (j : Journal) → journal_formed (journal_bytes j) ≡ true
unfolding journal_formed journal_bytes journal_head bytes_of zeros all
journal_formed_lem j = refl

-- what was written is read again
pub journal_of_bytes : (j : Journal) → InRange j → journal_of (journal_bytes j) ≡ j
unfolding journal_of journal_bytes journal_head number_at bytes_of
journal_of_bytes j range =
    let a : journal_old_slot (journal_bytes j) ≡ j.old = omega (arith, range.old) in
    let b : journal_new_slot (journal_bytes j) ≡ j.new = omega (arith, range.new) in
    let c : journal_moved (journal_bytes j) ≡ j.moved = omega (arith, range.moved) in
    let d : journal_replaced (journal_bytes j) ≡ j.replaced = omega (arith, range.replaced) in
    let e : journal_old_parent (journal_bytes j) ≡ j.parent = omega (arith, range.parent) in
    let f : journal_text (journal_bytes j) ≡ j.text = omega (arith, range.text) in
    let g : journal_time (journal_bytes j) ≡ j.time = number_bytes 8 j.time range.time in
    λ i. record { kind = j.kind; old = a i; new = b i; moved = c i; replaced = d i; parent = e i; text = f i; time = g i }
