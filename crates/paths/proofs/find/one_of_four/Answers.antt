-- `paths::find::one_of_four` meets its contract. Assumes nothing.
use Rattle.std.proofs.Common.{rules}
use Rattle.paths.proofs.LookupLaws.{skip_four}
use Rattle.paths.proofs.find.one_of_four.Goals.{then-lies_in, else-lies_in, then-lies_in-2, else-lies_in-2}
use Rattle.paths.proofs.find.one_of_four.Goals as goal

pub returns-else-lies_in-3 : goal.returns-else-lies_in-3
returns-else-lies_in-3 c = λ e.
    elim c.if-lies_in-2.branch [
      | then-lies_in-2 w ↦ search rules
      | else-lies_in-2 w ↦ elim c.if-lies_in.branch [
        | then-lies_in v ↦ search rules
        | else-lies_in v ↦ skip_four _ _ _ (search rules) (search rules) (search rules) (search rules)
      ]
    ]
