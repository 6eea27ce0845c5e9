-- `recover::outcome::apply` meets its contract. Assumes nothing.
use mathlib.Core.Path.{sym, ap, ◌∙◌}
use mathlib.Core.List.{List}
use Prim.Native.Nat.{ℕ, ◌+◌, ◌-◌}
use native.Mathlib.Omega.{arith}
use Rattle.recover.specs.Outcome.{applied_from}
use Rattle.recover.proofs.OutcomeLaws.{applied_first, applied_turn, applied_end}
use Rattle.recover.proofs.outcome.apply.Goals as goal

pub loop-i-init : goal.loop-i-init
loop-i-init c = applied_first c.args.image.now c.args.plan.now c.args.n

pub loop-i-preserved : goal.loop-i-preserved
loop-i-preserved c =
    let args = c.args in
    let i = c.loop-i.i in
    ap (λ (x : List ℕ). applied_from x args.plan.now (i + 1) (args.n - (i + 1))) c.land.ensures.1
    ∙ sym (applied_turn c.loop-i.image args.plan.now i args.n (omega arith)) ∙ c.loop-i.invariant

pub returns : goal.returns
returns c = sym (applied_end c.loop-i.image c.args.plan.now c.loop-i.i c.args.n (omega arith)) ∙ c.loop-i.invariant
