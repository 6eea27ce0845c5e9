-- A packed answer's parts are those that the header's accessors take out. Assumes nothing.
use Rattle.std.specs.Prelude.{◌<◌}
use Rattle.std.proofs.Common.{arith}
use Rattle.rename.specs.Renamed.{Renamed}
use Rattle.rename.specs.Answers.{Small}
use Rattle.mirepillar.specs.Result.{packed, Parts}

pub packed_parts : (r : Renamed) → r.number < 256 → Small r → Parts (packed r) r
unfolding packed
packed_parts r byte small =
    let rows = small.rows in
    let old = small.old in
    let new = small.new in
    record { number = omega arith; rows = omega arith; old = omega arith; new = omega arith; rest = omega arith }
