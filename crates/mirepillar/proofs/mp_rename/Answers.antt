-- `mirepillar::mp_rename` meets its contract. Assumes nothing.
use Rattle.std.proofs.Common.{ap, ◌∙◌}
use Rattle.rename.proofs.Bounds.{answers_small}
use Rattle.mirepillar.specs.Result.{packed}
use Rattle.mirepillar.proofs.mp_rename.Goals as goal

pub pack-requires : goal.pack-requires
pack-requires c = answers_small c.rename.ensures

pub returns : goal.returns
returns c =
    let who = c.credentials-who.ensures in
    let a = c.rename.ensures in
    rw (← who) (c.pack.ensures ∙ ap packed a.is, a.buffer)
