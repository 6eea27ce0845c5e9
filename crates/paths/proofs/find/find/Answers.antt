-- `paths::find::find` meets its contract. Assumes nothing.
use mathlib.Core.Path.{◌≡◌, sym, ◌∙◌}
use native.Mathlib.Omega.{arith}
use borrow.Author.Rules.{rules}
use Rattle.seq.proofs.SearchLaws.{any_none, any_miss, first_hit, first_out}
use Rattle.layout.specs.View.{view_of}
use Rattle.paths.specs.Lookup.{lookup}
use Rattle.paths.proofs.find.find.Goals.{then-k-n-via-then-k-n, then-k-n-via-else-k-n+then-is_named}
use Rattle.paths.proofs.find.find.Goals as goal

pub loop-j-init : goal.loop-j-init
loop-j-init c = (search rules, any_none _)

pub returns-then-k-n : goal.returns-then-k-n
unfolding lookup view_of
returns-then-k-n c =
    let run = c.run_from-k.ensures in
    elim c.then-k-n.branch [
      | then-k-n-via-then-k-n w ↦ (first_out _ _ _ run.1 (omega (arith, w.if-k-n.true)) run.2, run.1)
      | then-k-n-via-else-k-n+then-is_named w ↦
          (sym (first_hit _ _ _ (omega (arith, w.if-k-n.false, run.1)) run.2 (sym w.is_named.ensures ∙ w.if-is_named.true)), run.1)
    ]

pub loop-j-preserved : goal.loop-j-preserved
loop-j-preserved c =
    let run = c.run_from-k.ensures in
    (search rules, c.held_from-j.ensures.2.onward _ (any_miss _ _ run.2 (sym c.is_named.ensures ∙ c.if-is_named.false)))

pub returns : goal.returns
unfolding lookup view_of
returns c =
    let over : c.args.tree.now.image.shape.entries ≡ c.loop-j.j = omega (arith, c.loop-j.invariant.0, c.loop-j-test.false) in
    (over ∙ first_out _ _ _ c.loop-j.invariant.0 c.loop-j-test.false c.loop-j.invariant.1, omega arith)
