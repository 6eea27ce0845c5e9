-- `component::step::inside` meets its contract. Assumes nothing.
use mathlib.Core.Path.{ap}
use Prim.Native.Nat.{◌+◌, ◌-◌}
use native.Mathlib.Omega.{arith}
use borrow.Author.Rules.{rules}
use Rattle.seq.specs.Bytes.{part}
use Rattle.seq.proofs.BytesLaws.{part_length}
use Rattle.layout.specs.View.{view_of}
use Rattle.component.specs.State.{position_of}
use Rattle.component.proofs.Turns.{inside_reads, component_range, behind_range}
use Rattle.component.proofs.step.inside.Goals as goal

pub returns : goal.returns
unfolding part view_of
returns c =
    let w = c.args.w in
    let fit = c.requires.0 in
    let l = part_length w.path w.at (w.len - w.at) (omega (arith, fit.within, fit.short, fit.whole)) in
    let a = w.at + c.slashes.result in
    let few = c.slashes.ensures.1 in
    let k = part_length w.path a (w.len - a) (omega (arith, fit.within, fit.short, fit.whole)) in
    let more = c.name_bytes.ensures.1 in
    let start = ap (λ n. w.at + n) c.slashes.ensures.0 in
    let end = ap (λ n. a + n) c.name_bytes.ensures.0 in
    inside_reads (view_of c.args.tree.now.image.shape c.args.tree.now.image.bytes.now) c.args.who c.args.last _ (position_of w) _ _ (search rules)
    (component_range w.path w.at w.len a (a + c.name_bytes.result) fit.within start end (omega (arith, fit.within)))
    (behind_range w.path w.at w.len a (a + c.name_bytes.result) fit.within start end) c.component.ensures
