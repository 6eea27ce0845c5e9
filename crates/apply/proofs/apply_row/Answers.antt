-- `apply::apply_row` meets its contract. Assumes nothing.
use mathlib.Core.Path.{◌∙◌}
use Rattle.seq.specs.Truth.{holds}
use Rattle.apply.proofs.ApplyLaws.{fitting, row_copied}
use Rattle.apply.proofs.apply_row.Goals as goal

pub offset-requires : goal.offset-requires
offset-requires c =
    let f = fitting _ _ _ _ c.requires.0 (holds c.applicable.ensures c.if-not-applicable.false-raw) in (c.requires.1, f.0)

pub body-requires : goal.body-requires
body-requires c =
    let f = fitting _ _ _ _ c.requires.0 (holds c.applicable.ensures c.if-not-applicable.false-raw) in (c.requires.1, f.0, f.1)

pub returns : goal.returns
returns c =
    let passed = holds c.applicable.ensures c.if-not-applicable.false-raw in
    (rw passed, c.copy.ensures ∙ row_copied _ _ _ _ _ _ passed c.offset.ensures.0 c.body.ensures.is)
