-- `duplicates::by_bucket` meets its contract. Assumes nothing.
use mathlib.Core.Path.{◌≡◌, refl, sym, ◌∙◌}
use Prim.Native.Nat.{◌<◌, ◌-◌}
use native.Mathlib.Omega.{arith}
use lib.ListN.{get_or}
use borrow.Author.Rules.{rules}
use Rattle.seq.proofs.SearchLaws.{any_none, any_miss, any_hit, any_false, any_out}
use Rattle.layout.specs.View.{view_of}
use Rattle.tables.specs.Chain.{Last}
use Rattle.tables.specs.ChainLaws.{heads_none, nexts_none, heads_skip, nexts_skip, heads_turn, nexts_turn, passed_none, passed_turn, passed_all}
use Rattle.names.specs.NameTests.{has_duplicate}
use Rattle.duplicates.specs.Bucket.{buckets, bucket_at}
use Rattle.duplicates.proofs.BucketLaws.{clash_bucket, free_clash}
use Rattle.duplicates.proofs.by_bucket.Goals as goal

pub pairs-init : goal.pairs-init
pairs-init c = (heads_none _ _, nexts_none _ _ _, any_none _, refl)

pub pairs-preserved-then-b-eq-BUCKETS : goal.pairs-preserved-then-b-eq-BUCKETS
pairs-preserved-then-b-eq-BUCKETS c =
    let inv = c.pairs.invariant in
    let free : bucket_at (view_of c.args.image.now.shape c.args.image.now.bytes.now) c.pairs.j ≡ buckets =
    sym c.bucket-b.ensures.0 ∙ c.if-b-eq-BUCKETS.true in (
      heads_skip _ _ _ _ inv.0 (omega arith),
      nexts_skip _ _ _ _ _ inv.1 (omega arith),
      any_miss _ _ inv.2 (any_false _ _ (λ i l. free_clash _ _ free i)),
      inv.3,
    )

pub loop-at-init : goal.loop-at-init
loop-at-init c =
    let inv = c.pairs.invariant in
    let j = c.pairs.j in
    let key = bucket_at (view_of c.args.image.now.shape c.args.image.now.bytes.now) in
    let k = c.bucket-b.ensures.0 in
    let l : key j < buckets = omega arith in
    let head : Last key (key j) j (get_or c.pairs.heads c.bucket-b.result 0) = rw k (inv.0.at _ l) in (
      rw c.from-at.ensures (passed_none _ _ _ (λ i e. clash_bucket _ _ _ e) _ head),
      rw k (heads_turn _ _ _ _ inv.0 l),
      nexts_turn _ _ _ _ _ _ inv.1 head (search rules),
      inv.3,
    )

pub loop-at-smaller : goal.loop-at-smaller
loop-at-smaller c =
    let inv = c.loop-at.invariant in
    let e = inv.0.here c.loop-at-test.true in
    let k = c.bucket-b.ensures.0 in
    let last = inv.2.at (c.loop-at.at - 1) (omega (arith, inv.0.below)) (omega arith) in
    omega (arith, last.below)

pub loop-at-preserved : goal.loop-at-preserved
loop-at-preserved c =
    let inv = c.loop-at.invariant in
    let some = c.loop-at-test.true in
    let e = inv.0.here some in
    let k = c.bucket-b.ensures.0 in
    let last = inv.2.at (c.loop-at.at - 1) (omega (arith, inv.0.below)) (omega arith) in
    let apart = sym c.entries_clash.ensures ∙ c.if-entries_clash.false in (
      rw c.from-at-in-loop-at.ensures (passed_turn _ _ _ (λ i e. clash_bucket _ _ _ e) _ _ inv.0 some apart last),
      inv.1,
      inv.2,
      inv.3,
    )

pub pairs-preserved : goal.pairs-preserved
pairs-preserved c =
    let none = passed_all _ _ _ _ c.loop-at.invariant.0 (omega arith) in
    (search rules, search rules, any_miss _ _ c.pairs.invariant.2 none, c.loop-at.invariant.3)

pub returns-after-pairs : goal.returns-after-pairs
unfolding has_duplicate view_of
returns-after-pairs c = rw c.pairs.invariant.3 (any_out _ _ _ c.pairs.auto.j-end c.pairs-test.false c.pairs.invariant.2)

pub returns-then-entries_clash : goal.returns-then-entries_clash
unfolding has_duplicate view_of
returns-then-entries_clash c =
    let below = c.loop-at.invariant.0.below in
    let clashes = sym c.entries_clash.ensures ∙ c.if-entries_clash.true in
    sym (any_hit _ _ _ c.pairs-test.true (any_hit _ _ (c.loop-at.at - 1) (omega arith) clashes))
