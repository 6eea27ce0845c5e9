-- `names::front_good` meets its contract. Assumes nothing.
use mathlib.Core.Path.{◌≡◌, refl, sym}
use native.Mathlib.Omega.{arith}
use Rattle.seq.proofs.SearchLaws.{any_none}
use Rattle.names.specs.FrontLaws.{any_tells}
use Rattle.names.specs.NameTests.{front_wrong, front_good}
use Rattle.names.proofs.front_good.Goals as goal

pub loop-k-init : goal.loop-k-init
loop-k-init c = sym (any_none _)

pub loop-k-preserved : goal.loop-k-preserved
loop-k-preserved c =
    let args = c.args in
    any_tells (front_wrong args.e.now args.n) _ _ _ _ c.loop-k.invariant refl

pub returns : goal.returns
unfolding front_good
returns c =
    let e : c.loop-k.k ≡ 24 = omega arith in
    rw (c.loop-k.invariant, e)
