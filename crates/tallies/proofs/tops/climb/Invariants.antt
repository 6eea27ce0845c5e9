-- `tallies::tops::climb` keeps this in its loop. Assumes nothing.
-- Invariant: the places before i have gone on, and where the sum is 0 they are at the root.
use mathlib.Core.Path.{◌≡◌}
use Prim.Native.Nat.{◌≤◌, ◌*◌}
use Rattle.tables.specs.Table.{Within}
use Rattle.tallies.specs.Rounds.{round, Rooted}
use Rattle.tallies.proofs.tops.climb.Given as goal

abbrev pub invariant-loop-i : goal.invariant-loop-i
invariant-loop-i l = Within l.n l.to × (l.to ≡ round l.i l.initial.to) × (l.sum ≤ 512 * l.i) × (l.sum ≡ 0 → Rooted l.i l.to)
