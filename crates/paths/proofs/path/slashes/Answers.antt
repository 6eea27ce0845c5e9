-- `paths::path::slashes` meets its contract. Assumes nothing.
use Rattle.std.specs.Prelude.{not}
use Rattle.std.proofs.Common.{rules, ◌∙◌}
use borrow.Author.Tests.{tests}
use Rattle.seq.proofs.SearchLaws.{first_le}
use Rattle.seq.proofs.ChainLaws.{slice_position}
use Rattle.paths.specs.Path.{is_slash, slashes}
use Rattle.paths.proofs.path.slashes.Goals as goal

pub returns : goal.returns
unfolding slashes
returns c =
    let found = slice_position (λ b. not (is_slash b)) 0 c.args.p.now c.position.ensures.ran (search rules) (search (rules, tests)) in
    let place = c.unwrap_or.ensures ∙ found in
    (place, rw place (first_le _ _))
