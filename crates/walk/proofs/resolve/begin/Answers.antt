-- `walk::resolve::begin` meets its contract. Assumes nothing.
use mathlib.Core.Path.{ap}
use mathlib.Core.List.{List}
use Prim.Native.Nat.{ℕ}
use lib.ListN.{length}
use Rattle.walk.proofs.resolve.begin.Goals as goal

pub returns : goal.returns
returns c =
    let args = c.args in
    ap (λ (p : List ℕ). record { path = p; len = length args.path.now; at = 0; directory = args.directory; links = 0; steps = 0; waived = args.waived })
    c.working-bytes.ensures
