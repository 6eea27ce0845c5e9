-- `plan::body` meets its contract. Assumes nothing.
use native.Mathlib.Omega.{arith}
use Rattle.plan.proofs.RowLaws.{reads_body}
use Rattle.plan.proofs.body.Goals as goal

pub returns : goal.returns
returns c =
    let args = c.args in
    let pre = c.requires in
    let length = c.length-n in
    let e = length.ensures.0 in
    reads_body args.plan.now args.i length.result pre.0 pre.1 (omega (arith, pre.2)) e
