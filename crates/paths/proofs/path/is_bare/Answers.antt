-- `paths::path::is_bare` meets its contract. Assumes nothing.
use mathlib.Core.Path.{ap}
use lib.Dec.{eqb}
use lib.ListN.{length}
use Rattle.paths.proofs.path.is_bare.Goals as goal

pub returns : goal.returns
returns c = ap (λ n. eqb n (length c.args.p.now)) c.slashes.ensures.0
