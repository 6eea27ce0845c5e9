-- A pending rename that fits: the tests' last ways out, the numbers' ranges, and one law for each way out of its draft (rules 105 to 108). Assumes nothing.
use Rattle.std.specs.Prelude.{◌≡◌, ◌≢◌, Bool, true, false, ◌&&◌, not, List, ℕ, ◌<◌, eqb, ltb}
use Rattle.std.proofs.Common.{◌∙◌}
use Rattle.std.proofs.Math.Option.{none, some}
use borrow.Author.Tests.{ltb-true, lt-ltb, ne_eqb}
use Rattle.seq.specs.Truth.{and_left, and_right, implies_at}
use Rattle.layout.specs.declared.Shape.{Shape}
use Rattle.layout.specs.Limits.{absent}
use Rattle.layout.specs.View.{view_of, is_directory}
use Rattle.layout.proofs.ViewLaws.{is_kind_below}
use Rattle.encode.specs.declared.journal.Journal.{Journal}
use Rattle.recounts.specs.declared.Move.{Move}
use Rattle.results.specs.Results.{present}
use Rattle.results.specs.InImage.{InImage}
use Rattle.rename_drafts.specs.PendingRename.{below_or_absent, numbers_in_range, different, rename_fits, move_from, entry_stands, into_good, undoing, finishing, move_draft, rename_draft}

-- ---- the tests' last ways out

pub range_last : (h : Shape) (j : Journal) → j.old < h.entries → j.new < h.entries → j.moved < h.inodes
    → below_or_absent j.replaced h.inodes ≡ true → numbers_in_range h j ≡ below_or_absent j.text h.texts
range_last h j old new moved replaced = rw (lt-ltb _ _ old, lt-ltb _ _ new, lt-ltb _ _ moved, replaced)

pub different_last : (j : Journal) → j.old ≢ j.new → j.moved ≢ 0 → j.moved ≢ j.parent → j.replaced ≢ j.moved
    → different j ≡ not (eqb j.replaced j.parent)
different_last j slots root parent replaced = rw (ne_eqb _ _ slots, ne_eqb _ _ root, ne_eqb _ _ parent, ne_eqb _ _ replaced)

-- ---- a record that fits

-- five tests that all pass
pub five : (a b c d e : Bool) → (a && b && c && d && e) ≡ true → (a ≡ true) × (b ≡ true) × (c ≡ true) × (d ≡ true) × (e ≡ true)
five a b c d e all =
    let four = and_left (a && b && c && d) e all in
    let three = and_left (a && b && c) d four in
    let two = and_left (a && b) c three in
    (and_left a b two, and_right a b two, and_right (a && b) c three, and_right (a && b && c) d four, and_right (a && b && c && d) e all)

below : (i n : ℕ) → below_or_absent i n ≡ true → i ≢ absent → i < n
below i n e named = ltb-true _ _ (implies_at (present i) (ltb i n) e (rw (ne_eqb _ _ named)))

module _ (h : Shape) (x : List ℕ) (j : Journal) (fit : rename_fits h x j ≡ true) where
  -- the numbers are in range
  range : (ltb j.old h.entries ≡ true) × (ltb j.new h.entries ≡ true) × (ltb j.moved h.inodes ≡ true)
      × (below_or_absent j.replaced h.inodes ≡ true) × (below_or_absent j.text h.texts ≡ true)
  unfolding rename_fits
  range = five _ _ _ _ _ (and_left (numbers_in_range h j) (different j) (and_left (numbers_in_range h j && different j) _ fit))

  pub fits_old : j.old < h.entries
  fits_old = ltb-true _ _ range.0

  pub fits_new : j.new < h.entries
  fits_new = ltb-true _ _ range.1

  pub fits_parent : is_directory (view_of h x) j.parent ≡ true
  unfolding rename_fits
  fits_parent = and_right (numbers_in_range h j && different j) _ fit

  -- and with a good new parent those of its move are too
  pub fits_image : into_good (view_of h x) (move_from (view_of h x) j) ≡ true → InImage h (move_from (view_of h x) j)
  unfolding into_good
  fits_image good = record {
    old = fits_old;
    new = fits_new;
    moved = ltb-true _ _ range.2;
    from = is_kind_below h x _ 2 fits_parent;
    into = is_kind_below h x _ 2 (and_left (is_directory (view_of h x) ((view_of h x).parent j.new)) _ (and_left _ _ good));
    replaced = below _ _ range.3;
    text = below _ _ range.4;
  }

  -- the same of the move as the code has it
  module _ (m : Move) (is : m ≡ move_from (view_of h x) j) where
    pub move_new : m.new < h.entries
    move_new = rw is fits_new

    pub move_image : into_good (view_of h x) m ≡ true → InImage h m
    move_image good = rw is (fits_image (rw is at good))

    pub rename_move : rename_draft h x j ≡ move_draft h x m
    unfolding rename_draft
    rename_move = rw (fit, is)

-- ---- the ways out of its draft

module _ (h : Shape) (x : List ℕ) where
  pub rename_unfit : (j : Journal) → rename_fits h x j ≡ false → rename_draft h x j ≡ none
  unfolding rename_draft
  rename_unfit j unfit = rw unfit

  module _ (m : Move) where
    pub move_undone : entry_stands (view_of h x) m ≡ false → move_draft h x m ≡ some (undoing h x)
    unfolding move_draft
    move_undone undecided = rw undecided

    pub move_unfit : entry_stands (view_of h x) m ≡ true → into_good (view_of h x) m ≡ false → move_draft h x m ≡ none
    unfolding move_draft
    move_unfit done bad = rw (done, bad)

    pub move_finished : entry_stands (view_of h x) m ≡ true → into_good (view_of h x) m ≡ true → move_draft h x m ≡ some (finishing h x m)
    unfolding move_draft
    move_finished done good = rw (done, good)

pub draft_unfit : (h : Shape) (x : List ℕ) (j : Journal) → rename_fits h x j ≡ false → rename_draft h x j ≡ none
draft_unfit = rename_unfit

module _ (h : Shape) (x : List ℕ) (j : Journal) (fit : rename_fits h x j ≡ true) (m : Move) (is : m ≡ move_from (view_of h x) j) where
  pub draft_undone : entry_stands (view_of h x) m ≡ false → rename_draft h x j ≡ some (undoing h x)
  draft_undone undecided = rename_move h x j fit m is ∙ move_undone h x m undecided

  pub draft_bad : entry_stands (view_of h x) m ≡ true → into_good (view_of h x) m ≡ false → rename_draft h x j ≡ none
  draft_bad done bad = rename_move h x j fit m is ∙ move_unfit h x m done bad

  pub draft_finished : entry_stands (view_of h x) m ≡ true → into_good (view_of h x) m ≡ true → rename_draft h x j ≡ some (finishing h x m)
  draft_finished done good = rename_move h x j fit m is ∙ move_finished h x m done good
