-- `duplicates::mixed` meets its contract. Assumes nothing.
use native.Mathlib.Omega.{arith}
use Rattle.duplicates.specs.Bucket.{mix, mixed_of}
use Rattle.duplicates.proofs.mixed.Goals as goal

pub returns : goal.returns
unfolding mix mixed_of
returns c = (
  rw (
    c.parent-p.ensures.0,
    c.get32-a.ensures,
    c.get32-b.ensures,
    c.get32-c.ensures,
    c.get32-d.ensures,
    c.get32-f.ensures,
    c.get32-g.ensures,
  ),
  omega arith,
)
