-- `exchanges::rows::put_slots` meets its contract. Assumes nothing.
use Rattle.plan.proofs.AddedLaws.{added_join}
use Rattle.exchanges.proofs.rows.put_slots.Goals as goal

pub returns : goal.returns
returns c = added_join _ (rw c.back.ensures at c.put_slot.ensures) c.put_slot-2.ensures
