-- `layout::contents::name_is` meets its contract. Assumes nothing.
use mathlib.Core.Path.{sym}
use borrow.Author.Tests.{eq-eqb, ne_eqb}
use Rattle.layout.specs.Contents.{name_is}
use Rattle.layout.proofs.ContentsLaws.{name_last}
use Rattle.layout.proofs.contents.name_is.Goals as goal

pub returns-then-image-at : goal.returns-then-image-at
unfolding name_is
returns-then-image-at c = simp (ne_eqb _ _ c.if-image-at.true)

pub returns-then-image-at-2 : goal.returns-then-image-at-2
unfolding name_is
returns-then-image-at-2 c = simp (eq-eqb _ _ c.if-image-at.false, ne_eqb _ _ c.if-image-at-2.true)

pub returns-then-image-at-3 : goal.returns-then-image-at-3
unfolding name_is
returns-then-image-at-3 c =
    let if1 = c.if-image-at in
    let if2 = c.if-image-at-2 in
    simp (eq-eqb _ _ if1.false, eq-eqb _ _ if2.false, ne_eqb _ _ c.if-image-at-3.true)

pub returns : goal.returns
returns c =
    let if1 = c.if-image-at in
    let if2 = c.if-image-at-2 in
    sym (name_last _ _ _ if1.false if2.false c.if-image-at-3.false)
