-- `tallies::counts` meets its contract. Assumes nothing.
use mathlib.Core.Path.{◌≡◌}
use native.Mathlib.Omega.{arith}
use Rattle.layout.specs.View.{view_of}
use Rattle.tables.specs.TableLaws.{tally_le, tally_turn}
use Rattle.tallies.specs.Tallies.{target_slot, holder_slot}
use Rattle.tallies.proofs.TalliesLaws.{tally_blank, entry_counts_are, child_counts_are}
use Rattle.tallies.proofs.counts.Goals as goal

pub loop-j-init : goal.loop-j-init
loop-j-init c = (tally_blank _ _ _ c.requires.0, tally_blank _ _ _ c.requires.1)

pub overflow_add-entries : goal.overflow_add-entries
overflow_add-entries c =
    let t = c.loop-j.invariant.0.at c.target_slot.result (omega arith) in
    omega (arith, tally_le (target_slot (view_of c.args.image.now.shape c.args.image.now.bytes.now)) c.loop-j.j c.target_slot.result)

pub overflow_add-children : goal.overflow_add-children
overflow_add-children c =
    let t = c.loop-j.invariant.1.at c.holder_slot.result (omega arith) in
    omega (arith, tally_le (holder_slot (view_of c.args.image.now.shape c.args.image.now.bytes.now)) c.loop-j.j c.holder_slot.result)

pub loop-j-preserved : goal.loop-j-preserved
loop-j-preserved c =
    let e = c.target_slot.ensures.0 in
    let d = c.holder_slot.ensures.0 in
    (rw e (tally_turn _ _ _ _ c.loop-j.invariant.0 (omega arith)), rw d (tally_turn _ _ _ _ c.loop-j.invariant.1 (omega arith)))

pub returns : goal.returns
returns c =
    let e : c.loop-j.j ≡ c.args.image.now.shape.entries = omega arith in (
      entry_counts_are c.args.image.now.shape c.args.image.now.bytes.now c.args.image.now.laid _ (rw e at c.loop-j.invariant.0),
      child_counts_are c.args.image.now.shape c.args.image.now.bytes.now c.args.image.now.laid _ (rw e at c.loop-j.invariant.1),
    )
