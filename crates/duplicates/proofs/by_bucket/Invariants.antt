-- `duplicates::by_bucket` keeps this in its loops. Assumes nothing.
-- Invariant: nothing is found yet; no two entries before j clash, and the two arrays chain the entries before j by bucket. In the inner loop j is in its chain too, and no entry of
-- that chain from `at` on clashes with j. Measure of the inner loop: `at`, since a chain leads to ever earlier entries.
use mathlib.Core.Path.{◌≡◌}
use mathlib.Core.Bool.{false}
use Rattle.std.specs.Prelude.{Some}
use Prim.Native.Nat.{◌+◌}
use Rattle.seq.specs.Search.{any}
use Rattle.layout.specs.Limits.{entry_limit}
use Rattle.layout.specs.View.{view_of}
use Rattle.tables.specs.Chain.{Heads, Nexts, Passed}
use Rattle.names.specs.Name.{clash}
use Rattle.duplicates.specs.Bucket.{buckets, bucket_at}
use Rattle.duplicates.proofs.by_bucket.Given as goal

abbrev pub invariant-loop-at : goal.invariant-loop-at
invariant-loop-at l =
    let v = view_of l.image.shape l.image.bytes.now in
    Passed (bucket_at v) (λ i. clash v i l.j) l.j l.at
    × Heads (bucket_at v) buckets (l.j + 1) l.heads
    × Nexts (bucket_at v) buckets entry_limit (l.j + 1) l.nexts
    × (l.found ≡ Some false)

abbrev pub decreases-loop-at : goal.decreases-loop-at
decreases-loop-at l = l.at

abbrev pub invariant-pairs : goal.invariant-pairs
invariant-pairs l =
    let v = view_of l.image.shape l.image.bytes.now in
    Heads (bucket_at v) buckets l.j l.heads
    × Nexts (bucket_at v) buckets entry_limit l.j l.nexts
    × (any (λ m. any (λ k. clash v k m) m) l.j ≡ false)
    × (l.found ≡ Some false)
