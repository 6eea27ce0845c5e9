-- `recover::settle` meets its contract: the outcome decides. Assumes nothing.
use mathlib.Core.Path.{sym, ap, ◌∙◌}
use mathlib.Core.List.{List}
use Prim.Native.Nat.{ℕ}
use Rattle.layout.proofs.CodeLaws.{err_numbered, ok_numbered}
use Rattle.recover.specs.Outcome.{applied_from}
use Rattle.recover.proofs.Outs.{settle_refused, settle_done}
use Rattle.recover.proofs.settle.Goals as goal

pub returns-then-is_err : goal.returns-then-is_err
returns-then-is_err c =
    let args = c.args in
    let pre = c.requires in
    let outcome = c.apply.ensures ∙ ap (λ (xs : List ℕ). applied_from xs args.draft.now.bytes 0 args.draft.now.count) c.copy.ensures in
    settle_refused args.plan.now args.scratch.now _ _ pre.2 pre.1 pre.0.read args.draft.now pre.0 _ outcome (λ z. err_numbered c.check.result (sym c.is_err.ensures.value ∙ c.if-is_err.true) (c.check.ensures ∙ z)) _
    c.clear.ensures

pub returns : goal.returns
returns c =
    let args = c.args in
    let pre = c.requires in
    let outcome = c.apply.ensures ∙ ap (λ (xs : List ℕ). applied_from xs args.draft.now.bytes 0 args.draft.now.count) c.copy.ensures in
    let good = sym c.check.ensures ∙ ok_numbered c.check.result (sym c.is_err.ensures.value ∙ c.if-is_err.false) in
    settle_done args.plan.now args.scratch.now _ _ pre.2 pre.1 pre.0.read args.draft.now pre.0 _ outcome good _ c.copy-2.ensures
