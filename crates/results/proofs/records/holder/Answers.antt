-- `results::records::holder` meets its contract. Assumes nothing.
use mathlib.Core.Path.{ap, ◌∙◌}
use Prim.Native.Nat.{ℕ}
use Rattle.layout.specs.View.{inode_at}
use Rattle.results.specs.Results.{holder_bytes}
use Rattle.results.proofs.records.holder.Goals as goal

pub returns : goal.returns
returns c =
    let args = c.args in
    c.counted.ensures ∙ ap (λ (n : ℕ). holder_bytes n args.m.now (inode_at args.image.now.shape args.image.now.bytes.now args.i)) c.links_after-links.ensures.0
