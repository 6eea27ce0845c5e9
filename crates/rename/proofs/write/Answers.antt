-- `rename::write` meets its contract: the name is a range of the path, or there is none. Assumes nothing.
use Rattle.std.proofs.Common.{◌≡◌, List, ℕ, ◌+◌, ◌≤◌, length, sym, ap, subst, arith}
use Rattle.seq.specs.Bytes.{part}
use Rattle.layout.specs.declared.Shape.{Shape}
use Rattle.component.specs.State.{finding_by}
use Rattle.component.proofs.StateLaws.{missing_range}
use Rattle.recounts.specs.declared.Move.{Move}
use Rattle.results.specs.InImage.{InImage}
use Rattle.rename.specs.Order.{name_of}
use Rattle.moves.specs.Filled.{planned_as}
use Rattle.rename.proofs.write.Goals as goal

-- what a plan needs of a move and of a name, said of those that are the same
needed : {h : Shape} {m o : Move} {x y : List ℕ} → m ≡ o → x ≡ y → InImage h o → 8 + length y ≤ h.width → InImage h m × (8 + length x ≤ h.width)
needed {h} e f inside fits = (subst (InImage h) (sym e) inside, rw f fits)

pub slice_bounds-put-count : goal.slice_bounds-put-count
slice_bounds-put-count c =
    let r = missing_range c.args.path.now c.args.to.name _ _ c.requires.1 c.in-Missing.is in
    omega (arith, r.0, r.1)

pub put-requires : goal.put-requires
unfolding part
put-requires c =
    let name = ap (λ n. name_of (finding_by c.args.path.now c.args.to.directory c.args.to.slash n)) c.in-Missing.is in
    let same = needed c.move_of-m.ensures (sym name) c.requires.2 c.requires.3 in
    (c.requires.0, same.0, same.1)

pub returns-in-Missing : goal.returns-in-Missing
unfolding part
returns-in-Missing c =
    let name = ap (λ n. name_of (finding_by c.args.path.now c.args.to.directory c.args.to.slash n)) c.in-Missing.is in
    planned_as c.args.image.now.shape c.args.image.now.bytes.now c.args.plan.now _ _ c.move_of-m.ensures (sym name) c.put.ensures
