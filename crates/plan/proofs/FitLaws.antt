-- Laws of rows that an image can take: the record that one covers, and rows that an operation writes. Assumes nothing.
use Rattle.std.specs.Prelude.{◌≡◌, refl, true, List, ℕ, zero, suc, ◌+◌, ◌≤◌, ◌<◌, eqb, leb, length}
use Rattle.std.proofs.Common.{◌∙◌, arith, eq-eqb, eqb-true, lt-ltb, ltb-true, le-leb, leb-true}
use Rattle.seq.specs.Truth.{and_left, and_right, and_both}
use Rattle.seq.proofs.SearchLaws.{any_hit, any_at}
use Rattle.layout.specs.declared.Shape.{Shape}
use Rattle.layout.specs.Place.{Key, record_bytes, records, place, image_bytes}
use Rattle.layout.specs.Facts.{Laid}
use Rattle.layout.proofs.PlaceLaws.{place_inside}
use Rattle.plan.specs.Form.{Row, plan_rows, body_bytes, plan_bytes, row_length, row_offset, row_at, row_stored}
use Rattle.plan.specs.Fit.{applicable, coverable, covers, covers_record, covers_section, group_good, is_fitting_row, row_for}
use Rattle.plan.specs.FitFacts.{Covered, Applicable, Writes}
use Rattle.plan.specs.Stands.{RowFormed, Stands}
use Rattle.plan.proofs.RowLaws.{row_stands}

pub covers_one : (h : Shape) (at n : ℕ) → covers h at n ≡ true → Covered h at n
unfolding covers covers_section
covers_one h at n e =
    let (k, l, f) = any_at (covers_section h at n) 5 e in
    let (i, m, g) = any_at (covers_record h at n k) (records h k) (and_right (coverable k) _ f) in
    record {
      key = record { section = k; index = i };
      valid = record { in_image = l; in_section = m };
      allowed = and_left (coverable k) _ f;
      begins = eqb-true _ _ (and_left (eqb at (place h k i)) _ g);
      whole = eqb-true _ _ (and_right (eqb at (place h k i)) _ g);
    }

pub one_covers : (h : Shape) (at n : ℕ) → Covered h at n → covers h at n ≡ true
unfolding covers covers_section
one_covers h at n c =
    any_hit (covers_section h at n) 5 c.key.section c.valid.in_image
    (and_both (coverable c.key.section) _ c.allowed
    (any_hit (covers_record h at n c.key.section) (records h c.key.section) c.key.index c.valid.in_section
    (and_both (eqb at _) _ (eq-eqb _ _ c.begins) (eq-eqb _ _ c.whole))))

-- such a record lies in the image
pub covered_ends : (h : Shape) (at n : ℕ) → Covered h at n → at + n ≤ image_bytes h
covered_ends h at n c = rw (c.begins, c.whole) (place_inside h c.key.section c.key.index c.valid.in_image c.valid.in_section)

-- a record is not empty, and it fits a body
pub record_some : (h : Shape) → 1 ≤ h.width → (k : ℕ) → 1 ≤ record_bytes h k
record_some h a zero = omega arith
record_some h a (suc zero) = a
record_some h a (suc (suc zero)) = omega arith
record_some h a (suc (suc (suc zero))) = omega arith
record_some h a (suc (suc (suc (suc k)))) = omega arith

record_room : (h : Shape) → h.width ≤ 48 → (k : ℕ) → record_bytes h k ≤ body_bytes
record_room h a zero = omega arith
record_room h a (suc zero) = omega arith
record_room h a (suc (suc zero)) = omega arith
record_room h a (suc (suc (suc zero))) = omega arith
record_room h a (suc (suc (suc (suc k)))) = omega arith

pub applicable_is : (h : Shape) (plan : List ℕ) (i : ℕ) → applicable h plan i ≡ true → Applicable h plan i
unfolding applicable is_fitting_row row_at
applicable_is h plan i e = record {
  below = ltb-true _ _ (search (and_left, and_right));
  blank = eqb-true _ _ (search (and_left, and_right));
  position = eqb-true _ _ (search (and_left, and_right));
  first = leb-true _ _ (search (and_left, and_right));
  last = leb-true _ _ (search (and_left, and_right));
  covered = covers_one h _ _ (search (and_left, and_right));
}

pub is_applicable : (h : Shape) (plan : List ℕ) (i : ℕ) → Applicable h plan i → applicable h plan i ≡ true
unfolding applicable is_fitting_row row_at
is_applicable h plan i g =
    rw (lt-ltb _ _ g.below, eq-eqb _ _ g.blank, eq-eqb _ _ g.position, le-leb _ _ g.first, le-leb _ _ g.last, one_covers h _ _ g.covered)

-- such a row has its body in the plan and its record in the image
pub applicable_fits : (h : Shape) (s plan : List ℕ) (i : ℕ) → Laid h s → Applicable h plan i → (row_length plan i ≤ body_bytes) × (row_offset plan i + row_length plan i ≤ length s)
applicable_fits h s plan i laid g =
    (rw g.covered.whole (record_room h laid.width_most g.covered.key.section), omega (arith, laid.long, covered_ends h _ _ g.covered))

-- such a row can be applied to the image, by itself
module _ (h : Shape) (group : ℕ) (k : Key) (body : List ℕ) (w : Writes h group k body) where
  written_covers : Covered h (place h k.section k.index) (length body)
  written_covers = record { key = k; valid = w.valid; allowed = w.allowed; begins = refl; whole = w.whole }

  pub written_fits : is_fitting_row h (row_for h group k body) ≡ true
  unfolding is_fitting_row
  written_fits =
      and_both (group_good group) _ (and_both (leb 1 group) _ (le-leb _ _ w.first) (le-leb _ _ w.last))
      (one_covers h _ _ written_covers)

-- a row that stands in its place can be applied exactly if the image can take it
pub stands_applicable : (h : Shape) (plan : List ℕ) (i : ℕ) (r : Row) → i < plan_rows → Stands plan i r → applicable h plan i ≡ is_fitting_row h r
unfolding applicable
stands_applicable h plan i r below stands =
    rw (lt-ltb _ _ below, eq-eqb _ _ stands.blank, eq-eqb _ _ stands.position, stands.row)

module _ (h : Shape) (s : List ℕ) (laid : Laid h s) (group : ℕ) (k : Key) (body : List ℕ) (w : Writes h group k body) where
  pub written_formed : RowFormed (row_for h group k body)
  written_formed =
      let some = record_some h (omega (arith, laid.width_least)) k.section in
      let room = record_room h laid.width_most k.section in
      let ends = place_inside h k.section k.index w.valid.in_image w.valid.in_section in
      record { offset_small = omega (arith, laid.small); body_fits = omega (arith, w.whole); whole = refl }

  -- put into a plan, it can be applied from there
  pub written_applicable : (plan : List ℕ) (i : ℕ) → plan_bytes ≤ length plan → i < plan_rows → applicable h (row_stored plan i (row_for h group k body)) i ≡ true
  written_applicable plan i long below =
      stands_applicable h _ i _ below (row_stands plan i (row_for h group k body) long below written_formed) ∙ written_fits h group k body w
