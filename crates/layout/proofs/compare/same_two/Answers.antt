-- `layout::compare::same_two` meets its contract. Assumes nothing.
use mathlib.Core.Path.{ap₂, ◌∙◌}
use native.Mathlib.Omega.{arith}
use lib.Dec.{eqb}
use Rattle.seq.proofs.CompareLaws.{number_tells}
use Rattle.layout.proofs.compare.same_two.Goals as goal

pub returns : goal.returns
returns c =
    let args = c.args in
    let pre = c.requires in
    ap₂ eqb c.get16.ensures.0 c.get16-2.ensures.0
    ∙ number_tells 2 args.a.now args.b.now args.at pre.0 pre.1
    (λ n. omega (arith, c.type_inv.a n)) (λ n. omega (arith, c.type_inv.b n))
