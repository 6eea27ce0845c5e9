-- `exchanges::rows::put_inodes` meets its contract. Assumes nothing.
use Rattle.plan.proofs.AddedLaws.{added_join}
use Rattle.exchanges.proofs.rows.put_inodes.Goals as goal

pub returns : goal.returns
returns c =
    added_join _ c.put_moved.ensures (added_join _ c.put_parents.ensures (rw c.back.ensures at c.put_moved-2.ensures))
