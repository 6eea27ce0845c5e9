-- `exchanges::children` meets its contract. Assumes nothing.
use mathlib.Core.Path.{◌≡◌, ◌∙◌, ap}
use mathlib.Core.Bool.{◌&&◌}
use Prim.Native.Nat.{ℕ, ◌+◌, ◌≤◌}
use native.Mathlib.Omega.{arith}
use lib.Dec.{eqb}
use Rattle.seq.specs.Count.{bit}
use Rattle.seq.proofs.SearchLaws.{count_le}
use Rattle.layout.specs.View.{view_of, is_directory}
use Rattle.tree.specs.Tree.{holds_directory, child_directories}
use Rattle.recounts.specs.declared.Move.{Move}
use Rattle.recounts.specs.RecountLaws.{recounted}
use Rattle.exchanges.specs.Exchange.{holds_exchanged, children_exchanged}
use Rattle.exchanges.proofs.children.Goals as goal

pub overflow_sub-result : goal.overflow_sub-result
unfolding children_exchanged child_directories view_of
overflow_sub-result c =
    let wanted : ℕ =
    children_exchanged (view_of c.args.image.now.shape c.args.image.now.bytes.now) c.args.m c.args.d in
    let sum : wanted + (c.one_if-old.result + c.one_if-new.result) ≡ c.child_directories-stand.result + (c.one_if-second.result + c.one_if-first.result) =
    let m = c.args.m in
    let v = view_of c.args.image.now.shape c.args.image.now.bytes.now in
    let e = recounted m c.args.image.now.shape.entries c.requires (holds_directory v c.args.d) (eqb m.from c.args.d && is_directory v m.replaced) (eqb m.into c.args.d && is_directory v m.moved) in
    let other = c.one_if-second.ensures.0 ∙ ap bit (c.makes_child.ensures
    ∙ ap (λ (n : Move). eqb n.into c.args.d && is_directory v n.moved) c.back.ensures) in
    let made = c.one_if-first.ensures.0 ∙ ap bit c.makes_child-2.ensures in
    let old = c.one_if-old.ensures.0 ∙ ap bit c.entry_holds_directory.ensures in
    let new = c.one_if-new.ensures.0 ∙ ap bit c.entry_holds_directory-2.ensures in
    rw (old, new, other, made, c.child_directories-stand.ensures.0) e in
    omega (arith, sum)

pub overflow_sub-result-2 : goal.overflow_sub-result-2
unfolding children_exchanged child_directories view_of
overflow_sub-result-2 c =
    let wanted : ℕ =
    children_exchanged (view_of c.args.image.now.shape c.args.image.now.bytes.now) c.args.m c.args.d in
    let sum : wanted + (c.one_if-old.result + c.one_if-new.result) ≡ c.child_directories-stand.result + (c.one_if-second.result + c.one_if-first.result) =
    let m = c.args.m in
    let v = view_of c.args.image.now.shape c.args.image.now.bytes.now in
    let e = recounted m c.args.image.now.shape.entries c.requires (holds_directory v c.args.d) (eqb m.from c.args.d && is_directory v m.replaced) (eqb m.into c.args.d && is_directory v m.moved) in
    let other = c.one_if-second.ensures.0 ∙ ap bit (c.makes_child.ensures
    ∙ ap (λ (n : Move). eqb n.into c.args.d && is_directory v n.moved) c.back.ensures) in
    let made = c.one_if-first.ensures.0 ∙ ap bit c.makes_child-2.ensures in
    let old = c.one_if-old.ensures.0 ∙ ap bit c.entry_holds_directory.ensures in
    let new = c.one_if-new.ensures.0 ∙ ap bit c.entry_holds_directory-2.ensures in
    rw (old, new, other, made, c.child_directories-stand.ensures.0) e in
    omega (arith, sum)

pub returns : goal.returns
unfolding children_exchanged child_directories view_of
returns c =
    let wanted : ℕ =
    children_exchanged (view_of c.args.image.now.shape c.args.image.now.bytes.now) c.args.m c.args.d in
    let sum : wanted + (c.one_if-old.result + c.one_if-new.result) ≡ c.child_directories-stand.result + (c.one_if-second.result + c.one_if-first.result) =
    let m = c.args.m in
    let v = view_of c.args.image.now.shape c.args.image.now.bytes.now in
    let e = recounted m c.args.image.now.shape.entries c.requires (holds_directory v c.args.d) (eqb m.from c.args.d && is_directory v m.replaced) (eqb m.into c.args.d && is_directory v m.moved) in
    let other = c.one_if-second.ensures.0 ∙ ap bit (c.makes_child.ensures
    ∙ ap (λ (n : Move). eqb n.into c.args.d && is_directory v n.moved) c.back.ensures) in
    let made = c.one_if-first.ensures.0 ∙ ap bit c.makes_child-2.ensures in
    let old = c.one_if-old.ensures.0 ∙ ap bit c.entry_holds_directory.ensures in
    let new = c.one_if-new.ensures.0 ∙ ap bit c.entry_holds_directory-2.ensures in
    rw (old, new, other, made, c.child_directories-stand.ensures.0) e in
    let few : wanted ≤ c.args.image.now.shape.entries =
    count_le (holds_exchanged (view_of c.args.image.now.shape c.args.image.now.bytes.now) c.args.m c.args.d) c.args.image.now.shape.entries in
    (omega (arith, sum), omega (arith, sum, few, c.args.image.now.laid.entries_most))
