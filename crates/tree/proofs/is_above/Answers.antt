-- `tree::is_above` meets its contract. Assumes nothing.
use mathlib.Core.Path.{◌≡◌, sym, ◌∙◌}
use Prim.Native.Nat.{◌+◌, ◌-◌, ◌<◌}
use native.Mathlib.Omega.{arith}
use mathlib.Core.Bool.{true, false}
use borrow.Author.Rules.{rules}
use Rattle.layout.specs.Fields.{inode_field}
use Rattle.layout.proofs.RecordLaws.{field_of}
use Rattle.layout.specs.View.{view_of, is_directory}
use Rattle.layout.proofs.ViewLaws.{is_kind_below}
use Rattle.tree.proofs.TreeLaws.{reaches_goal, reaches_out, reaches_on, reaches_end}
use Rattle.tree.proofs.is_above.Goals as goal

pub returns-then-at-goal : goal.returns-then-at-goal
returns-then-at-goal c = sym (reaches_goal _ _ _ _ c.if-at-goal.true) ∙ c.loop.invariant.1

pub returns-then-not-is_directory : goal.returns-then-not-is_directory
unfolding view_of
returns-then-not-is_directory c =
    let left : 0 < c.args.image.now.shape.inodes - c.loop.counter = omega arith in
    let f = field_of inode_field c.inode.ensures c.field-at.ensures.0 in
    let none : is_directory (view_of c.args.image.now.shape c.args.image.now.bytes.now) c.field-at.result ≡ false = search rules in
    sym (reaches_out _ _ _ _ left c.if-at-goal.false (rw f at none)) ∙ c.loop.invariant.1

pub loop-preserved : goal.loop-preserved
unfolding view_of
loop-preserved c =
    let v = view_of c.args.image.now.shape c.args.image.now.bytes.now in
    let left : 0 < c.args.image.now.shape.inodes - c.loop.counter = omega arith in
    let one : c.args.image.now.shape.inodes - (c.loop.counter + 1) ≡ c.args.image.now.shape.inodes - c.loop.counter - 1 = omega arith in
    let f = field_of inode_field c.inode.ensures c.field-at.ensures.0 in
    let some : is_directory v c.field-at.result ≡ true = search rules in (
      is_kind_below _ _ _ 2 some,
      rw (one, f) (sym (reaches_on _ _ _ _ left c.if-at-goal.false (rw f at some)) ∙ c.loop.invariant.1),
    )

pub returns : goal.returns
returns c =
    let e : c.args.image.now.shape.inodes - c.loop.counter ≡ 0 = omega arith in
    sym (reaches_end _ _ _) ∙ rw e at c.loop.invariant.1
