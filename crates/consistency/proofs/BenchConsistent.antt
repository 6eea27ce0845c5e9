-- The bench tree is consistent, as a truth value. Assumes nothing.
use Rattle.std.specs.Prelude.{◌≡◌, true}
use Rattle.layout.specs.BenchTree.{bench}
use Rattle.consistency.specs.Consistent.{consistent}
use Rattle.consistency.proofs.ConsistentLaws.{checked_consistent}
use Rattle.consistency.proofs.Bench.{bench_checked}

pub bench_consistent : consistent bench ≡ true
bench_consistent = checked_consistent bench bench_checked
