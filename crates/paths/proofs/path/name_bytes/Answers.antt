-- `paths::path::name_bytes` meets its contract. Assumes nothing.
use Rattle.std.proofs.Common.{rules, ◌∙◌}
use borrow.Author.Tests.{tests}
use Rattle.seq.proofs.SearchLaws.{first_le}
use Rattle.seq.proofs.ChainLaws.{slice_position}
use Rattle.paths.specs.Path.{is_slash, until_slash}
use Rattle.paths.proofs.path.name_bytes.Goals as goal

pub returns : goal.returns
unfolding until_slash
returns c =
    let found = slice_position is_slash 0 c.args.p.now c.position.ensures.ran (search rules) (search (rules, tests)) in
    let place = c.unwrap_or.ensures ∙ found in
    (place, rw place (first_le _ _))
