-- `tallies::tops::climb` meets its contract. Assumes nothing.
use mathlib.Core.Path.{◌≡◌}
use Prim.Native.Nat.{◌<◌}
use native.Mathlib.Omega.{arith}
use lib.ListN.{get_or}
use Rattle.tallies.proofs.RoundsLaws.{round_none, round_turn, rooted_turn, within_turn}
use Rattle.tallies.proofs.tops.climb.Goals as goal

pub loop-i-init : goal.loop-i-init
loop-i-init c = (c.requires.1, round_none _, omega arith, λ z i l. absurd (omega arith))

pub loop-i-preserved : goal.loop-i-preserved
loop-i-preserved c =
    let i = c.loop-i.i in
    let to = c.loop-i.to in
    let inv = c.loop-i.invariant in
    let l = c.loop-i-test.true in
    let k : c.from.result ≡ get_or to i 0 = c.from.ensures in
    let top : c.from-sum.result ≡ get_or to c.from.result 0 = c.from-sum.ensures in
    let below : get_or to c.from.result 0 < c.args.n = rw k (inv.0.at (get_or to i 0) (inv.0.at i l)) in (
      rw k (within_turn c.args.n i to l inv.0),
      rw k (round_turn i _ to inv.1),
      omega (arith, c.requires.0),
      λ z. rooted_turn i _ to (omega (arith, inv.0.long)) (omega arith) (inv.3 (omega arith)),
    )
