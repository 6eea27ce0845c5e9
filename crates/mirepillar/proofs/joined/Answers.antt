-- `mirepillar::joined` meets its contract. Assumes nothing.
use Rattle.std.proofs.Common.{arith}
use Rattle.mirepillar.specs.Result.{packed}
use Rattle.mirepillar.proofs.joined.Goals as goal

pub returns : goal.returns
unfolding packed
returns c = omega (arith, c.from.ensures)
