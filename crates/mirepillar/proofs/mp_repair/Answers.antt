-- `mirepillar::mp_repair` meets its contract. Assumes nothing.
use Rattle.std.proofs.Common.{ℕ, ap₂, ◌∙◌, arith}
use Rattle.recover.proofs.Outs.{answers_few}
use Rattle.mirepillar.specs.Result.{packed}
use Rattle.mirepillar.proofs.mp_repair.Goals as goal

pub joined-requires : goal.joined-requires
joined-requires c =
    let few = answers_few c.args.plan.now c.args.scratch.now c.args.image.now c.recover-answer.ensures in
    record { rows = rw c.unwrap_or-rows.ensures few; old = omega arith; new = omega arith }

pub returns : goal.returns
returns c =
    let a = c.recover-answer.ensures in
    let parts = ap₂ (λ (n k : ℕ). packed (record { number = n; rows = k; old = 0; new = 0 })) (c.number-number.ensures ∙ a.number) (c.unwrap_or-rows.ensures ∙ a.rows) in
    (c.joined.ensures ∙ parts, a.plan_is, a.scratch_is)
