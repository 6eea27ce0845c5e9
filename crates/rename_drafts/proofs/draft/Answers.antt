-- `rename_drafts::draft` meets its contract. Assumes nothing.
use Rattle.seq.specs.Truth.{fails, holds}
use Rattle.rename_drafts.proofs.Fit.{fits_new, move_new, move_image, draft_undone, draft_bad, draft_finished, draft_unfit}
use Rattle.rename_drafts.proofs.draft.Goals as goal

pub returns-then-not-fits : goal.returns-then-not-fits
returns-then-not-fits c = rw (draft_unfit _ _ _ (fails c.fits.ensures c.if-not-fits.true-raw)) tt

pub move_from-m-requires : goal.move_from-m-requires
move_from-m-requires c = fits_new _ _ _ (holds c.fits.ensures c.if-not-fits.false-raw)

pub entry_stands-requires : goal.entry_stands-requires
entry_stands-requires c = move_new _ _ _ (holds c.fits.ensures c.if-not-fits.false-raw) _ c.move_from-m.ensures

pub returns-then-not-entry_stands : goal.returns-then-not-entry_stands
returns-then-not-entry_stands c =
    let fit = holds c.fits.ensures c.if-not-fits.false-raw in
    rw (draft_undone _ _ _ fit _ c.move_from-m.ensures (fails c.entry_stands.ensures c.if-not-entry_stands.true-raw)) c.undo.ensures

pub returns-then-not-into_good : goal.returns-then-not-into_good
returns-then-not-into_good c =
    let fit = holds c.fits.ensures c.if-not-fits.false-raw in
    let done = holds c.entry_stands.ensures c.if-not-entry_stands.false-raw in
    rw (draft_bad _ _ _ fit _ c.move_from-m.ensures done (fails c.into_good.ensures c.if-not-into_good.true-raw)) tt

pub finish-requires : goal.finish-requires
finish-requires c =
    let fit = holds c.fits.ensures c.if-not-fits.false-raw in
    move_image _ _ _ fit _ c.move_from-m.ensures (holds c.into_good.ensures c.if-not-into_good.false-raw)

pub returns : goal.returns
returns c =
    let fit = holds c.fits.ensures c.if-not-fits.false-raw in
    let done = holds c.entry_stands.ensures c.if-not-entry_stands.false-raw in
    rw (draft_finished _ _ _ fit _ c.move_from-m.ensures done (holds c.into_good.ensures c.if-not-into_good.false-raw)) c.finish.ensures
