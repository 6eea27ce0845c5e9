-- `exchanges::rows::put_slot` meets its contract. Assumes nothing.
use Rattle.plan.proofs.AddedLaws.{added_one}
use Rattle.exchanges.specs.Exchange.{slot_row}
use Rattle.exchanges.proofs.rows.put_slot.Goals as goal

pub returns : goal.returns
returns c = added_one _ (slot_row c.args.image.now.shape c.args.image.now.bytes.now c.args.m) c.push.ensures c.entry_place.ensures c.retarget.ensures
