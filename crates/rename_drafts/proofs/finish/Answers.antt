-- `rename_drafts::finish` meets its contract. Assumes nothing.
use Rattle.plan.proofs.AddedLaws.{added_join}
use Rattle.results.specs.Results.{results}
use Rattle.results.proofs.ResultRows.{results_le}
use Rattle.rename_drafts.proofs.ClearedLaws.{rows_below}
use Rattle.rename_drafts.proofs.finish.Goals as goal

pub put_clear-requires : goal.put_clear-requires
put_clear-requires c =
    let h = c.args.image.now.shape in
    let s = c.args.image.now.bytes.now in
    rows_below h (results h s c.args.m) (results_le h s c.args.m) (rw c.none-rows.ensures at c.put.ensures)

pub returns : goal.returns
returns c = added_join _ (rw c.none-rows.ensures at c.put.ensures) c.put_clear.ensures
