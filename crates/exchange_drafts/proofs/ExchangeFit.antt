-- A pending exchange that fits: the tests' last ways out, the numbers' ranges, and one law for each way out of its draft (rules 106a and 108a). Assumes nothing.
use Rattle.std.specs.Prelude.{◌≡◌, ◌≢◌, true, false, ◌&&◌, List, ℕ, ◌<◌, ltb}
use Rattle.std.proofs.Math.Option.{none, some}
use Rattle.std.proofs.Math.Dec.{eqb}
use Rattle.std.proofs.lemmas.Bool.{eqb-false, not-true}
use Rattle.std.proofs.Common.{ltb-true, lt-ltb, eq-eqb}
use Rattle.seq.specs.Truth.{and_left, and_right}
use Rattle.layout.specs.declared.Shape.{Shape}
use Rattle.layout.specs.Limits.{absent}
use Rattle.layout.specs.View.{View, view_of, is_directory}
use Rattle.layout.proofs.ViewLaws.{is_kind_below}
use Rattle.encode.specs.declared.journal.Journal.{Journal}
use Rattle.recounts.specs.declared.Move.{Move}
use Rattle.exchanges.specs.InImage.{BothInImage}
use Rattle.rename_drafts.specs.PendingRename.{different, move_from, into_good}
use Rattle.exchange_drafts.specs.PendingExchange.{both_in_range, both_different, slot_stands, slots_stand, exchange_fits, finishing_exchange, exchange_draft}
use Rattle.rename_drafts.proofs.Fit.{five}

-- ---- the tests' last ways out

pub both_range_last : (h : Shape) (j : Journal) → j.old < h.entries → j.new < h.entries → j.moved < h.inodes → j.replaced < h.inodes
    → both_in_range h j ≡ eqb j.text absent
both_range_last h j old new moved replaced = rw (lt-ltb _ _ old, lt-ltb _ _ new, lt-ltb _ _ moved, lt-ltb _ _ replaced)

pub slots_last : (v : View) (j : Journal) → slot_stands v j j.old ≡ true → slot_stands v j j.new ≡ true → v.parent j.old ≡ j.parent
    → slots_stand v j ≡ into_good v (move_from v j)
unfolding slots_stand
slots_last v j old new parent = rw (old, new, eq-eqb _ _ parent)

-- ---- numbers in range

module _ (h : Shape) (j : Journal) (all : both_in_range h j ≡ true) where
  range : (ltb j.old h.entries ≡ true) × (ltb j.new h.entries ≡ true) × (ltb j.moved h.inodes ≡ true)
      × (ltb j.replaced h.inodes ≡ true) × (eqb j.text absent ≡ true)
  range = five _ _ _ _ _ all

  pub range_old : j.old < h.entries
  range_old = ltb-true _ _ range.0

  pub range_new : j.new < h.entries
  range_new = ltb-true _ _ range.1

  range_moved : j.moved < h.inodes
  range_moved = ltb-true _ _ range.2

  range_replaced : j.replaced < h.inodes
  range_replaced = ltb-true _ _ range.3

-- ---- a record that fits

slots_apart : (j : Journal) → different j ≡ true → j.old ≢ j.new
slots_apart j all = eqb-false _ _ (not-true (eqb j.old j.new) (five _ _ _ _ _ all).0)

module _ (h : Shape) (x : List ℕ) (j : Journal) (fit : exchange_fits h x j ≡ true) where
  directory_fits : (both_in_range h j && both_different j && is_directory (view_of h x) j.parent) ≡ true
  unfolding exchange_fits
  directory_fits = and_left _ (slots_stand (view_of h x) j) fit

  numbers_fit : (both_in_range h j && both_different j) ≡ true
  numbers_fit = and_left _ (is_directory (view_of h x) j.parent) directory_fits

  pub fits_range : both_in_range h j ≡ true
  fits_range = and_left _ (both_different j) numbers_fit

  fits_apart : j.old ≢ j.new
  fits_apart = slots_apart j (and_left (different j) _ (and_right (both_in_range h j) (both_different j) numbers_fit))

  fits_slots : slots_stand (view_of h x) j ≡ true
  unfolding exchange_fits
  fits_slots = and_right (both_in_range h j && both_different j && is_directory (view_of h x) j.parent) _ fit

  fits_good : into_good (view_of h x) (move_from (view_of h x) j) ≡ true
  unfolding slots_stand
  fits_good =
      let v = view_of h x in
      and_right (slot_stands v j j.old && slot_stands v j j.new && eqb (v.parent j.old) j.parent) _ fits_slots

  fits_into : is_directory (view_of h x) ((view_of h x).parent j.new) ≡ true
  unfolding into_good
  fits_into = and_left (is_directory (view_of h x) ((view_of h x).parent j.new)) _ (and_left _ _ fits_good)

  -- the numbers of its move are those of records of the image
  pub fits_both : BothInImage h (move_from (view_of h x) j)
  fits_both = record {
    slots = record { old = range_old h j fits_range; new = range_new h j fits_range; apart = fits_apart };
    moved = range_moved h j fits_range;
    from = is_kind_below h x _ 2 (and_right (both_in_range h j && both_different j) _ directory_fits);
    into = is_kind_below h x _ 2 fits_into;
    replaced = range_replaced h j fits_range;
  }

  -- the same of the move as the code has it, and the draft
  module _ (m : Move) (is : m ≡ move_from (view_of h x) j) where
    pub exchange_image : BothInImage h m
    exchange_image = rw is fits_both

    pub exchange_finished : exchange_draft h x j ≡ some (finishing_exchange h x m)
    unfolding exchange_draft
    exchange_finished = rw (fit, is)

pub exchange_unfit : (h : Shape) (x : List ℕ) (j : Journal) → exchange_fits h x j ≡ false → exchange_draft h x j ≡ none
unfolding exchange_draft
exchange_unfit h x j unfit = rw unfit
