-- `exchanges::rows::fill` meets its contract. Assumes nothing.
use mathlib.Core.Path.{◌∙◌}
use native.Mathlib.Omega.{arith}
use Rattle.exchanges.proofs.ExchangeRows.{exchange_le, exchange_stored}
use Rattle.exchanges.proofs.rows.fill.Goals as goal

pub put_clear-requires : goal.put_clear-requires
put_clear-requires c =
    let first = rw c.none-rows.ensures at c.put_start.ensures.filled.next in
    omega (arith, first, c.put.ensures.filled.next, exchange_le c.args.image.now.shape c.args.image.now.bytes.now c.args.m)

pub returns : goal.returns
returns c =
    let first = rw (c.none-rows.ensures, c.from.ensures) at c.put_start.ensures in
    let all = exchange_stored _ _ _ c.args.plan.now c.requires.0 first c.put.ensures c.put_clear.ensures in
    (c.copy.ensures ∙ all.0, all.1)
