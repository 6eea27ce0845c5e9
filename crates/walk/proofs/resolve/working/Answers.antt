-- `walk::resolve::working` meets its contract. Assumes nothing.
use mathlib.Core.Path.{◌∙◌}
use native.Mathlib.Omega.{arith}
use Rattle.seq.proofs.BytesLaws.{put_zeros}
use Rattle.paths.specs.WorkingPath.{working_path}
use Rattle.layout.specs.Limits.{path_bytes}
use Rattle.walk.proofs.resolve.working.Goals as goal

pub returns : goal.returns
unfolding working_path
returns c =
    let args = c.args in
    let pre = c.requires in
    c.copy.ensures ∙ put_zeros path_bytes args.path.now (omega (arith, pre))
