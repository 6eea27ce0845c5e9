-- `tallies::counts` keeps this in its loop. Assumes nothing.
-- Invariant: the entries before slot j are counted in both tables.
use Rattle.layout.specs.View.{view_of}
use Rattle.tables.specs.Table.{Table, tally}
use Rattle.tallies.specs.Tallies.{target_slot, holder_slot}
use Rattle.tallies.proofs.counts.Given as goal

abbrev pub invariant-loop-j : goal.invariant-loop-j
invariant-loop-j l =
    Table (tally (target_slot (view_of l.image.shape l.image.bytes.now)) l.j) 513 l.entries
    × Table (tally (holder_slot (view_of l.image.shape l.image.bytes.now)) l.j) 513 l.children
