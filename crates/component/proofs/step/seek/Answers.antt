-- `component::step::seek` meets its contract. Assumes nothing.
use Prim.Native.Nat.{◌-◌}
use borrow.Author.Rules.{rules}
use Rattle.seq.specs.Bytes.{part}
use Rattle.layout.specs.View.{view_of}
use Rattle.paths.proofs.LookupLaws.{lookup_used}
use Rattle.component.proofs.step.seek.Goals as goal

pub hit-requires : goal.hit-requires
unfolding part view_of
hit-requires c =
    let w = c.args.w in
    let name = part w.path c.args.a (c.args.e - c.args.a) in (
      search rules,
      c.if-slot-tree.true,
      lookup_used (view_of c.args.tree.now.image.shape c.args.tree.now.image.bytes.now) w.directory name _ c.find-slot.ensures.0 c.if-slot-tree.true,
    )
