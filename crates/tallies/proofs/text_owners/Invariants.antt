-- `tallies::text_owners` keeps this in its loop. Assumes nothing.
-- Invariant: the table has the first symlink from i on that has each text.
use Rattle.layout.specs.View.{view_of}
use Rattle.tables.specs.Table.{Firsts}
use Rattle.tallies.specs.Tallies.{text_slot}
use Rattle.tallies.proofs.text_owners.Given as goal

abbrev pub invariant-loop-i : goal.invariant-loop-i
invariant-loop-i l = Firsts (text_slot (view_of l.image.shape l.image.bytes.now)) 65 l.i l.image.shape.inodes l.first
