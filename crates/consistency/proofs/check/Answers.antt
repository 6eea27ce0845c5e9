-- `consistency::check` meets its contract. Assumes nothing.
use Rattle.std.proofs.Common.{sym, ◌∙◌, ap}
use Rattle.layout.proofs.ContentsLaws.{contents_good, contents_bad}
use Rattle.consistency.specs.Consistent.{records_number}
use Rattle.consistency.proofs.ConsistentLaws.{check_bad, check_read}
use Rattle.consistency.proofs.check.Goals as goal

pub returns-in_default : goal.returns-in_default
returns-in_default c = sym (check_bad _ (contents_bad _ c.in_default.ensures))

pub returns : goal.returns
returns c =
    let read = c.in-Some.ensures in
    c.checked.ensures ∙ ap (records_number c.in-Some.image.shape) read.1 ∙ sym (check_read _ _ (contents_good _ _ read.0))
