-- `layout::bytes::copy` keeps this in its loop. Assumes nothing.
-- Invariant: the first k bytes of `from` stand at `at`, the others of d are as they were.
use Rattle.std.proofs.Common.{◌≡◌, length, take}
use Rattle.seq.specs.Bytes.{put}
use Rattle.layout.proofs.bytes.copy.Given as goal

abbrev pub invariant-loop-k : goal.invariant-loop-k
invariant-loop-k l = (l.d ≡ put l.initial.d l.at (take l.k l.from)) × (length l.d ≡ length l.initial.d)
