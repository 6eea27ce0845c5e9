-- `recover::outcome::apply` keeps this in its loops. Assumes nothing.
-- Invariant: the rows from i on, over the image so far, give what all rows give over the first.
use mathlib.Core.Path.{◌≡◌}
use Prim.Native.Nat.{◌-◌}
use Rattle.recover.specs.Outcome.{applied_from}
use Rattle.recover.proofs.outcome.apply.Given as goal

abbrev pub invariant-loop-i : goal.invariant-loop-i
invariant-loop-i l = applied_from l.image l.plan l.i (l.n - l.i) ≡ applied_from l.initial.image l.plan 0 l.n
