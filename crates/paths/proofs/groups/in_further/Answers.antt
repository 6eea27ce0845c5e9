-- `paths::groups::in_further` meets its contract. Assumes nothing.
use Rattle.std.proofs.Common.{rules, arith, ◌∙◌}
use Rattle.paths.proofs.GroupLaws.{further_list}
use Rattle.paths.proofs.groups.in_further.Goals as goal

pub returns : goal.returns
returns c = c.contains.ensures.value ∙ further_list c.args.who c.args.g _ (search rules) (omega arith)
