-- `moves::rows::put` meets its contract. Assumes nothing.
use mathlib.Core.Path.{◌∙◌}
use native.Mathlib.Omega.{arith}
use Rattle.results.proofs.ResultRows.{results_le}
use Rattle.moves.specs.Filled.{rename_stored}
use Rattle.moves.proofs.rows.put.Goals as goal

pub put-requires : goal.put-requires
put-requires c =
    let first = rw c.none-rows.ensures at c.put_start.ensures.filled.next in
    (omega (arith, first, c.put_entry.ensures.filled.next), c.requires.1)

pub put_clear-requires : goal.put_clear-requires
put_clear-requires c =
    let first = rw c.none-rows.ensures at c.put_start.ensures.filled.next in
    omega (arith, first, c.put_entry.ensures.filled.next, c.put.ensures.filled.next, results_le c.args.image.now.shape c.args.image.now.bytes.now c.args.m)

pub returns : goal.returns
returns c =
    let first = rw (c.none-rows.ensures, c.from.ensures) at c.put_start.ensures in
    let all = rename_stored _ _ _ _ c.args.plan.now c.requires.0 first c.put_entry.ensures c.put.ensures c.put_clear.ensures in
    (c.copy.ensures ∙ all.0, all.1)
