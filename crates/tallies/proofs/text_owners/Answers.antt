-- `tallies::text_owners` meets its contract. Assumes nothing.
use mathlib.Core.Path.{◌≡◌}
use native.Mathlib.Omega.{arith}
use Rattle.tables.specs.TableLaws.{firsts_none}
use Rattle.tallies.proofs.TalliesLaws.{text_owners_are}
use Rattle.tallies.proofs.text_owners.Goals as goal

pub loop-i-init : goal.loop-i-init
loop-i-init c = firsts_none _ _ _

pub returns : goal.returns
returns c =
    let e : c.loop-i.i ≡ 0 = omega arith in
    text_owners_are c.args.image.now.shape c.args.image.now.bytes.now c.args.image.now.laid _ (rw e at c.loop-i.invariant)
