-- `exchange_drafts::draft` meets its contract. Assumes nothing.
use Rattle.seq.specs.Truth.{fails, holds}
use Rattle.exchange_drafts.proofs.ExchangeFit.{range_new, fits_range, exchange_image, exchange_finished, exchange_unfit}
use Rattle.exchange_drafts.proofs.draft.Goals as goal

pub returns-then-not-fits : goal.returns-then-not-fits
returns-then-not-fits c = rw (exchange_unfit _ _ _ (fails c.fits.ensures c.if-not-fits.true-raw)) tt

pub move_from-m-requires : goal.move_from-m-requires
move_from-m-requires c = range_new c.args.image.now.shape c.args.j (fits_range _ _ _ (holds c.fits.ensures c.if-not-fits.false-raw))

pub finish-requires : goal.finish-requires
finish-requires c = exchange_image _ _ _ (holds c.fits.ensures c.if-not-fits.false-raw) _ c.move_from-m.ensures

pub returns : goal.returns
returns c = rw (exchange_finished _ _ _ (holds c.fits.ensures c.if-not-fits.false-raw) _ c.move_from-m.ensures) c.finish.ensures
