-- `exchanges::rows::put` meets its contract. Assumes nothing.
use Rattle.exchanges.proofs.ExchangeRows.{exchange_added}
use Rattle.exchanges.proofs.rows.put.Goals as goal

pub returns : goal.returns
returns c = exchange_added _ _ _ c.put_slots.ensures c.put_inodes.ensures
