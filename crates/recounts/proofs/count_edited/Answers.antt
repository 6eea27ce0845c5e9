-- `recounts::count_edited` meets its contract. Assumes nothing.
use Rattle.std.proofs.Common.{arith, sym, ◌∙◌, false}
use Rattle.seq.proofs.SearchLaws.{count_none, count_le}
use Rattle.recounts.specs.RecountLaws.{two_is}
use Rattle.recounts.specs.Recount.{edited}
use Rattle.recounts.proofs.RecountCleared.{recounted_told, byte_le, counted_on}
use Rattle.recounts.proofs.Edited.{edited_old, edited_new, edited_else}
use Rattle.recounts.proofs.count_edited.Goals.{then-j-m, else-j-m+then-j-m-2, else-j-m+else-j-m-2}
use Rattle.recounts.proofs.count_edited.Goals as goal

pub returns-then-edits_two : goal.returns-then-edits_two
returns-then-edits_two g c = λ p says.
    let sum =
    recounted_told c.args.m c.args.n c.args.stand (two_is _ _ (sym c.edits_two.ensures ∙ c.if-edits_two.true)) p says _ _ _
    c.from-then-edits_two-2.ensures c.counts.ensures c.from.ensures c.counts-then-edits_two.ensures c.from-then-edits_two.ensures in
    (omega (arith, sum), omega (arith, sum, count_le (λ j. edited c.args.m j false c.args.made (p j)) c.args.n, c.requires.many))

pub overflow_add-result : goal.overflow_add-result
overflow_add-result g c =
    let (p, says) = c.requires.stands in
    omega (arith, says.counted, count_le p c.args.n, c.requires.many, c.from-then-edits_two-2.ensures, byte_le c.args.made)

pub overflow_sub-result : goal.overflow_sub-result
overflow_sub-result g c =
    let (p, says) = c.requires.stands in
    omega (
      arith,
      recounted_told c.args.m c.args.n c.args.stand (two_is _ _ (sym c.edits_two.ensures ∙ c.if-edits_two.true)) p says _ _ _
          c.from-then-edits_two-2.ensures c.counts.ensures c.from.ensures c.counts-then-edits_two.ensures c.from-then-edits_two.ensures,
    )

pub loop-j-init : goal.loop-j-init
loop-j-init g c = (omega arith, λ p says. sym (count_none _))

pub loop-j-preserved : goal.loop-j-preserved
loop-j-preserved g c =
    let m = c.args.m in
    let j = c.loop-j.j in (
      omega (arith, c.loop-j.invariant.0, c.from-found.ensures, byte_le c.if-j-m.counted),
      λ p says.
          counted_on (λ k. edited m k false c.args.made (p k)) j c.loop-j.found _ c.from-found.ensures (elim c.if-j-m.branch [
            | then-j-m w ↦ w.counted-is ∙ sym (edited_old m j false c.args.made (p j) w.if-j-m.true)
            | else-j-m+then-j-m-2 w ↦ w.counted-is ∙ sym (edited_new m j false c.args.made (p j) w.if-j-m.false w.if-j-m-2.true)
            | else-j-m+else-j-m-2 w ↦ w.counted-is ∙ says.each j _ c.loop-j-test.true w.counts-else-j-m-2.ensures
                ∙ sym (edited_else m j false c.args.made (p j) w.if-j-m.false w.if-j-m-2.false)
          ]) (c.loop-j.invariant.1 p says),
    )
