-- `layout::compare::same_piece` meets its contract. Assumes nothing.
use mathlib.Core.Path.{ap₂, ◌∙◌}
use native.Mathlib.Omega.{arith}
use lib.Dec.{eqb}
use Rattle.seq.proofs.CompareLaws.{number_tells}
use Rattle.seq.specs.Compare.{piece_size}
use Rattle.layout.proofs.compare.same_piece.Goals as goal

pub returns : goal.returns
returns c =
    let args = c.args in
    let pre = c.requires in
    ap₂ eqb c.get64.ensures c.get64-2.ensures
    ∙ number_tells piece_size args.a.now args.b.now args.at pre.0 pre.1
    (λ n. omega (arith, c.type_inv.a n)) (λ n. omega (arith, c.type_inv.b n))
