-- `names::front_good` keeps this in its loops. Assumes nothing.
-- Invariant: wrong tells whether a byte before k is.
use mathlib.Core.Path.{◌≡◌}
use Rattle.seq.specs.Search.{any}
use Rattle.names.specs.NameTests.{front_wrong}
use Rattle.names.proofs.front_good.Given as goal

abbrev pub invariant-loop-k : goal.invariant-loop-k
invariant-loop-k l = l.wrong ≡ any (front_wrong l.e l.n) l.k
