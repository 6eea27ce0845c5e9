-- `layout::contents::read` meets its contract. Assumes nothing.
use mathlib.Core.Path.{sym, ◌∙◌, ap}
use Rattle.std.specs.Bool.{then_some}
use Rattle.layout.proofs.ContentsLaws.{contents_short, contents_from_rows}
use Rattle.layout.proofs.contents.read.Goals as goal

pub returns-then-image-lt-CONTENTS_BYTES : goal.returns-then-image-lt-CONTENTS_BYTES
returns-then-image-lt-CONTENTS_BYTES c = sym (contents_short _ c.if-image-lt-CONTENTS_BYTES.true)

pub returns : goal.returns
returns c =
    c.then_some.ensures ∙ ap (λ b. then_some b c.shape_of-h.result) c.rows_good.ensures
    ∙ sym (contents_from_rows _ _ c.if-image-lt-CONTENTS_BYTES.false c.shape_of-h.ensures.0)
