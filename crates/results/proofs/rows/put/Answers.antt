-- `results::rows::put` meets its contract. Assumes nothing.
use Rattle.results.proofs.ResultRows.{results_added}
use Rattle.results.proofs.rows.put.Goals as goal

pub returns : goal.returns
returns c = results_added _ _ _ c.put_always.ensures c.put_into.ensures c.put_replaced.ensures c.put_text.ensures
