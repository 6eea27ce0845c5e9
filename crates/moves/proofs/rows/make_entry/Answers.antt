-- `moves::rows::make_entry` meets its contract. Assumes nothing.
use mathlib.Core.Path.{refl}
use Rattle.moves.specs.Entries.{entry_made, entry_taken}
use Rattle.moves.proofs.rows.make_entry.Goals as goal

pub returns-then-m-eq-ABSENT : goal.returns-then-m-eq-ABSENT
returns-then-m-eq-ABSENT c =
    let args = c.args in
    let pre = c.requires in
    entry_made args.image.now.shape args.image.now.bytes.now args.m args.called.now _ c.if-m-eq-ABSENT.true _ pre.1 c.write.ensures

pub returns : goal.returns
returns c =
    let args = c.args in
    entry_taken args.image.now.shape args.image.now.bytes.now args.m args.called.now _ c.if-m-eq-ABSENT.false _ refl c.retarget.ensures
