-- `plan::put_clearing` meets its contract. Assumes nothing.
use mathlib.Core.Path.{sym, ap, ◌∙◌}
use Prim.Native.Nat.{ℕ}
use native.Mathlib.Omega.{arith}
use lib.ListN.{replicate}
use lib.Seq.{length-take-le}
use borrow.Author.Rules.{rules}
use Rattle.seq.proofs.BytesLaws.{take_zeros}
use Rattle.plan.specs.Form.{row_of, row_stored}
use Rattle.plan.proofs.put_clearing.Goals as goal

pub slice_bounds-put_row-end : goal.slice_bounds-put_row-end
slice_bounds-put_row-end c = sym (length-take-le _ _ c.requires.2)

pub put_row-requires : goal.put_row-requires
put_row-requires c =
    (search rules, search rules, omega (arith, c.requires.2, length-take-le c.args.n (replicate {A = ℕ} 64 0) c.requires.2))

pub returns : goal.returns
returns c =
    c.put_row.ensures
    ∙ ap (λ b. row_stored c.args.plan.now c.args.i (row_of c.args.group c.args.offset b)) (take_zeros c.args.n 64 c.requires.2)
