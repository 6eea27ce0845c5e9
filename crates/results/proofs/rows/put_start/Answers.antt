-- `results::rows::put_start` meets its contract. Assumes nothing.
use Rattle.plan.proofs.AddedLaws.{added_one}
use Rattle.results.specs.Start.{start_row}
use Rattle.results.proofs.rows.put_start.Goals as goal

pub returns : goal.returns
returns c = added_one _ (start_row c.args.kind c.args.m) c.push.ensures c.journal_place.ensures c.journal-r.ensures
