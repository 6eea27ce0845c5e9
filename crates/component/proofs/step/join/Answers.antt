-- `component::step::join` meets its contract. Assumes nothing.
use Rattle.seq.specs.Bytes.{part}
use Rattle.component.proofs.Splice.{joins}
use Rattle.component.proofs.step.join.Goals as goal

pub returns : goal.returns
unfolding part
returns c =
    let pre = c.requires in
    joins c.args.w c.args.text.now _ c.args.e _ _ pre.0 pre.1 pre.2 pre.3 c.splice-path.ensures c.start-directory.ensures
