-- `apply::land` meets its contract. Assumes nothing.
use mathlib.Core.Path.{◌≡◌, sym, ap, ◌∙◌}
use Rattle.std.specs.Prelude.{None, Err}
use Rattle.std.specs.Result.{result_ok}
use Rattle.std.proofs.lemmas.Result.{err_from_is_err_and}
use Rattle.layout.proofs.ContentsLaws.{contents_good, contents_bad}
use Rattle.layout.specs.declared.errno.Errno.TheVariants as Errno
use Rattle.apply.proofs.ApplyLaws.{apply_short, apply_bad, apply_read}
use Rattle.apply.proofs.land.Goals as goal

pub returns-then-plan-lt-BYTES : goal.returns-then-plan-lt-BYTES
returns-then-plan-lt-BYTES c =
    let e = apply_short c.args.image.now c.args.plan.now c.args.row c.if-plan-lt-BYTES.true in (sym e.0, sym e.1)

pub returns-in_err-h : goal.returns-in_err-h
returns-in_err-h c =
    let none : c.read.result ≡ None = c.ok_or.ensures.ok_part ∙ ap result_ok c.in_err-h.was in
    let is : c.ok_or.result ≡ Err Errno.Inconsistent = c.ok_or.ensures.value ∙ rw none in
    let same : c.in_err-h.field-0.0 ≡ Errno.Inconsistent = cc (is, c.in_err-h.was) in
    let p = err_from_is_err_and c.from_residual.result c.from_residual.ensures.1 in
    let e = apply_bad c.args.image.now c.args.plan.now c.args.row c.if-plan-lt-BYTES.false (contents_bad _ (sym c.read.ensures ∙ none)) in
    (rw (p.1, p.2, same) (sym e.0), sym e.1)

pub apply_row-requires : goal.apply_row-requires
apply_row-requires c =
    let some = c.ok_or.ensures.ok_part ∙ ap result_ok c.in_ok-h.was in
    ((contents_good _ _ (sym c.read.ensures ∙ some)).laid, c.if-plan-lt-BYTES.false)

pub returns : goal.returns
returns c =
    let some = c.ok_or.ensures.ok_part ∙ ap result_ok c.in_ok-h.was in
    let e = apply_read c.args.image.now c.args.plan.now c.args.row c.if-plan-lt-BYTES.false _ (contents_good _ _ (sym c.read.ensures ∙ some)) in
    (c.apply_row.ensures.0 ∙ sym e.0, c.apply_row.ensures.1 ∙ sym e.1)
