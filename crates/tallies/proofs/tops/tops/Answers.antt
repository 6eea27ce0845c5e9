-- `tallies::tops::tops` meets its contract. Assumes nothing.
use native.Mathlib.Omega.{arith}
use borrow.Author.Rules.{rules}
use Rattle.tallies.proofs.RoundsLaws.{table_climbed, climbed_within, round_climbed}
use Rattle.tallies.proofs.TopsLaws.{above_in, tops_far, tops_rooted}
use Rattle.tallies.proofs.tops.tops.Goals as goal

pub loop-size-init : goal.loop-size-init
loop-size-init c = (search rules, table_climbed _ _ _ c.all_above.ensures)

pub climb-requires : goal.climb-requires
climb-requires c =
    let args = c.args in
    (search rules, climbed_within _ _ (above_in args.image.now.shape args.image.now.bytes.now) _ _ c.loop-size.invariant.1)

pub returns-then-climb-eq0 : goal.returns-then-climb-eq0
returns-then-climb-eq0 c =
    let args = c.args in
    let climb = c.climb in
    tops_rooted _ _ _ _ (climb.ensures.1 c.if-climb-eq0.true)
    (round_climbed _ _ (above_in args.image.now.shape args.image.now.bytes.now) _ _ _ climb.ensures.0 c.loop-size.invariant.1)

pub loop-size-preserved : goal.loop-size-preserved
loop-size-preserved c =
    let args = c.args in
    (search rules, round_climbed _ _ (above_in args.image.now.shape args.image.now.bytes.now) _ _ _ c.climb.ensures.0 c.loop-size.invariant.1)

pub returns : goal.returns
returns c = tops_far _ _ _ _ (omega arith) c.loop-size.invariant.1
