-- `layout::contents::row_is` meets its contract. Assumes nothing.
use mathlib.Core.Path.{sym, ◌∙◌, ap}
use lib.Dec.{leb}
use Rattle.seq.specs.Truth.{fails, holds}
use Rattle.layout.proofs.ContentsLaws.{row_name, row_offset_lem, row_few, row_count}
use Rattle.layout.proofs.contents.row_is.Goals as goal

pub returns-then-not-name_is : goal.returns-then-not-name_is
returns-then-not-name_is c = sym (row_name _ _ _ _ _ _ (fails c.name_is.ensures c.if-not-name_is.true-raw))

pub returns-then-get16-offset : goal.returns-then-get16-offset
returns-then-get16-offset c = sym (row_offset_lem _ _ _ _ _ _ (λ e. c.if-get16-offset.true (c.get16.ensures.0 ∙ e)))

pub returns-then-count-least : goal.returns-then-count-least
returns-then-count-least c = sym (row_few _ _ _ _ _ _ (rw c.get16-count.ensures.0 at c.if-count-least.true))

pub returns : goal.returns
returns c =
    let args = c.args in
    let name-is = c.name_is in
    let get16 = c.get16 in
    let get162 = c.get16-count in
    sym (row_count _ _ _ _ _ _ (holds name-is.ensures c.if-not-name_is.false-raw) (sym get16.ensures.0 ∙ c.if-get16-offset.false) (rw get162.ensures.0 at c.if-count-least.false)
    ∙ ap (λ n. leb n args.limit) (sym get162.ensures.0))
