-- `recover::pending` meets its contract: a record that fits is settled. Assumes nothing.
use Rattle.recover.proofs.Outs.{answers_none, unfit_none}
use Rattle.recover.proofs.pending.Goals as goal

pub settle-requires : goal.settle-requires
settle-requires c = (record { read = c.requires.2; drafted = c.in-Some.ensures }, c.requires.0, c.requires.1)

pub returns-in-None : goal.returns-in-None
returns-in-None c =
    let h = c.args.image.now.shape in
    let x = c.args.image.now.bytes.now in
    answers_none c.args.plan.now c.args.scratch.now x h c.requires.1 (unfit_none h x c.in-None.ensures) _ c.clear.ensures
