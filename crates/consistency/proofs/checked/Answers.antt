-- `consistency::checked` meets its contract. Assumes nothing.
use Rattle.std.proofs.Common.{sym, ◌∙◌}
use Rattle.seq.specs.Truth.{fails, holds}
use Rattle.consistency.specs.Consistent.{records_number}
use Rattle.consistency.proofs.checked.Goals as goal

pub returns-then-not-journal_clear : goal.returns-then-not-journal_clear
unfolding records_number
returns-then-not-journal_clear c = simp (fails c.journal_clear.ensures c.if-not-journal_clear.true-raw)

pub returns-then-bodies_good : goal.returns-then-bodies_good
unfolding records_number
returns-then-bodies_good c =
    simp (holds c.journal_clear.ensures c.if-not-journal_clear.false-raw, sym c.bodies_good.ensures ∙ c.if-bodies_good.true)

pub returns-else-bodies_good : goal.returns-else-bodies_good
unfolding records_number
returns-else-bodies_good c =
    simp (holds c.journal_clear.ensures c.if-not-journal_clear.false-raw, sym c.bodies_good.ensures ∙ c.if-bodies_good.false)
