-- `results::rows::put_text` meets its contract. Assumes nothing.
use mathlib.Core.Path.{refl}
use Rattle.plan.proofs.AddedLaws.{added_one}
use Rattle.results.specs.Results.{text_row}
use Rattle.results.proofs.ResultRows.{text_one, text_none}
use Rattle.results.proofs.rows.put_text.Goals as goal

pub returns-then-m-eq-ABSENT : goal.returns-then-m-eq-ABSENT
returns-then-m-eq-ABSENT c = text_none c.args.image.now.shape c.args.image.now.bytes.now c.args.m c.if-m-eq-ABSENT.true

pub returns : goal.returns
returns c =
    let h = c.args.image.now.shape in
    let s = c.args.image.now.bytes.now in
    text_one h s c.args.m c.if-m-eq-ABSENT.false (added_one h (text_row h s c.args.m) c.push_clearing.ensures c.text_place.ensures refl)
