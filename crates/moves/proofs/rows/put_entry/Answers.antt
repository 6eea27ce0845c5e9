-- `moves::rows::put_entry` meets its contract. Assumes nothing.
use Rattle.plan.proofs.AddedLaws.{added_one}
use Rattle.moves.specs.Plan.{entry_row}
use Rattle.moves.proofs.rows.put_entry.Goals as goal

pub returns : goal.returns
returns c =
    let row = entry_row c.args.image.now.shape c.args.image.now.bytes.now c.args.m c.args.called.now in
    added_one _ row c.push.ensures c.entry_place.ensures c.make_entry.ensures
