-- `exchanges::parent` meets its contract. Assumes nothing.
use mathlib.Core.Path.{◌≡◌, ap, ◌∙◌}
use Prim.Native.Nat.{ℕ, ◌+◌}
use native.Mathlib.Omega.{arith}
use Rattle.layout.specs.View.{view_of, inode_at}
use Rattle.results.specs.Results.{holder_bytes}
use Rattle.exchanges.specs.Exchange.{children_exchanged}
use Rattle.exchanges.proofs.parent.Goals as goal

pub returns : goal.returns
returns c =
    let args = c.args in
    let n : c.children-links.result + 2 ≡ 2 + children_exchanged (view_of args.image.now.shape args.image.now.bytes.now) args.m args.i = omega (arith, c.children-links.ensures.0) in
    c.counted.ensures ∙ ap (λ (k : ℕ). holder_bytes k args.m.now (inode_at args.image.now.shape args.image.now.bytes.now args.i)) n
