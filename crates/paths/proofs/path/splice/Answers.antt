-- `paths::path::splice` meets its contract. Assumes nothing.
use mathlib.Core.Path.{ap, ◌∙◌}
use native.Mathlib.Omega.{arith}
use lib.ListN.{length}
use Rattle.seq.specs.Bytes.{put}
use Rattle.paths.proofs.WorkingPathLaws.{twice}
use Rattle.paths.specs.WorkingPath.{working_path}
use Rattle.paths.proofs.path.splice.Goals as goal

pub returns : goal.returns
unfolding working_path
returns c =
    let args = c.args in
    let pre = c.requires in
    let copy = c.copy in
    c.copy-2.ensures ∙ ap (λ l. put l (length args.text.now) args.rest.now) copy.ensures
    ∙ twice args.text.now args.rest.now 256 (omega (arith, pre))
