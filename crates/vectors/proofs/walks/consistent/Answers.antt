-- `vectors::walks::consistent`: an image that the check passes can be read, with the shape that its table of contents tells.
use Rattle.std.specs.Prelude.{not}
use Rattle.std.proofs.Common.{sym, ap, subst, ◌∙◌}
use Rattle.layout.specs.Facts.{Readable}
use Rattle.layout.proofs.CodeLaws.{ok_numbered}
use Rattle.layout.proofs.ContentsLaws.{contents_good}
use Rattle.consistency.proofs.FactLaws.{checked_readable}
use Rattle.vectors.proofs.walks.consistent.Goals as goal

pub invariant_of-result : goal.invariant_of-result
invariant_of-result c =
    let read = c.in-Some.ensures in
    let done = ok_numbered c.check.result (c.is_ok.ensures.negation ∙ ap not c.if-is_ok.true) in
    let readable = checked_readable _ _ (contents_good _ _ read.0) (sym c.check.ensures ∙ done) in
    record { readable = subst (λ s. Readable c.in-Some.image.shape s) (sym read.1) readable }
