-- `layout::bytes::copy` meets its contract. Assumes nothing.
use Rattle.std.proofs.Common.{refl, rules, sym, length-set}
use Rattle.seq.proofs.BytesLaws.{put_none, put_more}
use Rattle.layout.proofs.bytes.copy.Goals as goal

pub loop-k-init : goal.loop-k-init
loop-k-init c = (sym (put_none _ _), refl)

pub loop-k-preserved : goal.loop-k-preserved
loop-k-preserved c = (rw c.loop-k.invariant.0 (put_more _ _ _ _ c.loop-k-test.true), simp length-set c.loop-k.invariant.1)
