-- `tallies::tops::all_above` keeps this in its loop. Assumes nothing.
-- Invariant: the table holds the directory above each inode before i.
use mathlib.Core.Path.{◌≡◌}
use lib.ListN.{length}
use Rattle.layout.specs.View.{view_of}
use Rattle.tables.specs.Table.{Table}
use Rattle.tallies.specs.Tallies.{above}
use Rattle.tallies.proofs.tops.all_above.Given as goal

abbrev pub invariant-loop-i : goal.invariant-loop-i
invariant-loop-i l = (length l.to ≡ 512) × Table (above (view_of l.image.shape l.image.bytes.now)) l.i l.to
