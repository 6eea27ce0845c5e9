-- `results::rows::put_always` meets its contract. Assumes nothing.
use mathlib.Core.Path.{refl}
use Rattle.plan.proofs.AddedLaws.{added_one, added_join}
use Rattle.results.specs.Results.{old_row}
use Rattle.results.proofs.rows.put_always.Goals as goal

pub returns : goal.returns
returns c =
    let h = c.args.image.now.shape in
    let cleared = added_one h (old_row h c.args.image.now.bytes.now c.args.m) c.push_clearing.ensures c.entry_place.ensures refl in
    rw c.holder.ensures at (added_join h (added_join h cleared c.put_moved.ensures) c.put_inode.ensures)
