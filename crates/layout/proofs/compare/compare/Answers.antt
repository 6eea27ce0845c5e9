-- `layout::compare::compare` meets its contract. Assumes nothing.
use Rattle.std.specs.Prelude.{◌/◌, length}
use Rattle.std.proofs.Common.{rules, arith}
use borrow.Author.Tests.{tests}
use Rattle.seq.specs.Compare.{piece_size, piece_differs}
use Rattle.seq.proofs.ChainLaws.{range_place, place_found, place_none}
use Rattle.seq.proofs.CompareLaws.{lengths_differ, piece_differs_lem}
use Rattle.layout.proofs.compare.compare.Goals as goal

pub returns-then-a-b : goal.returns-then-a-b
returns-then-a-b c = lengths_differ c.args.a.now c.args.b.now c.if-a-b.true

pub last-requires : goal.last-requires
last-requires c =
    let place = range_place _ _ c.position.ensures.ran (search rules) (search (rules, tests)) in
    (c.if-a-b.false, omega arith, place_none (piece_differs c.args.a.now c.args.b.now) _ place c.in-None.is)

pub returns-in-Some : goal.returns-in-Some
returns-in-Some c =
    let args = c.args in
    let whole = length args.a.now / piece_size in
    let place = range_place (piece_differs args.a.now args.b.now) whole c.position.ensures.ran (search rules) (search (rules, tests)) in
    let found = place_found (piece_differs args.a.now args.b.now) whole c.in-Some.k place c.in-Some.is in
    let below = found.0 in
    piece_differs_lem args.a.now args.b.now c.if-a-b.false c.in-Some.k (omega (arith, below)) found.1 found.2
