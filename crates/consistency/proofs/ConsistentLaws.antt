-- The ways out of the job check, and that it answers 0 exactly where the image is consistent. Assumes nothing.
use Rattle.std.specs.Prelude.{◌≡◌, refl, Bool, true, false, ◌&&◌, cond, List, ℕ}
use Rattle.std.proofs.Common.{arith}
use Rattle.seq.specs.Truth.{and_left, and_right}
use Rattle.layout.specs.declared.Shape.{Shape}
use Rattle.layout.specs.Errno.{inconsistent, journal_pending}
use Rattle.layout.specs.Facts.{Read}
use Rattle.layout.specs.Contents.{layout_good, shape_of}
use Rattle.consistency.specs.Sound.{journal_clear, bodies_good}
use Rattle.consistency.specs.Consistent.{check_number, consistent, records_number}

-- the ways out of the job check
pub check_bad : (s : List ℕ) → layout_good s ≡ false → check_number s ≡ inconsistent
unfolding check_number
check_bad s e = rw e

pub check_read : (s : List ℕ) (h : Shape) → Read s h → check_number s ≡ records_number h s
unfolding check_number
check_read s h r = rw (r.good, r.shape)

-- check answers 0 exactly where the image is consistent
pub checked_consistent : (s : List ℕ) → check_number s ≡ 0 → consistent s ≡ true
unfolding consistent check_number records_number
checked_consistent s e = go (layout_good s) (journal_clear (shape_of s) s) (bodies_good (shape_of s) s) e
  where
    go : (layout journal bodies : Bool) → cond layout (cond journal (cond bodies 0 inconsistent) journal_pending) inconsistent ≡ 0 → (layout && journal && bodies) ≡ true
    go true true true z = refl
    go true true false z = absurd (omega arith)
    go true false b z = absurd (omega arith)
    go false a b z = absurd (omega arith)

pub consistent_checked : (s : List ℕ) → consistent s ≡ true → check_number s ≡ 0
unfolding consistent check_number records_number
consistent_checked s e =
    let layout : layout_good s ≡ true = search (and_left, and_right) in
    let journal : journal_clear (shape_of s) s ≡ true = search (and_left, and_right) in
    let bodies : bodies_good (shape_of s) s ≡ true = search (and_left, and_right) in
    rw (layout, journal, bodies)
