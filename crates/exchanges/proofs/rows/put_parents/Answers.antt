-- `exchanges::rows::put_parents` meets its contract. Assumes nothing.
use Rattle.exchanges.proofs.ExchangeRows.{parents_one, parents_two}
use Rattle.exchanges.proofs.rows.put_parents.Goals as goal

pub returns-then-m : goal.returns-then-m
returns-then-m c =
    parents_one c.args.image.now.shape c.args.image.now.bytes.now c.args.m c.if-m.true (rw c.parent.ensures at c.put_inode.ensures)

pub returns : goal.returns
returns c =
    parents_two c.args.image.now.shape c.args.image.now.bytes.now c.args.m c.if-m.false (rw c.parent.ensures at c.put_inode.ensures)
    (rw c.parent-2.ensures at c.put_inode-2.ensures)
