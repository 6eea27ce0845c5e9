-- `recover::recover` meets its contract: short buffers and a bad layout come first. Assumes nothing.
use mathlib.Core.Path.{◌≡◌, sym, ap, subst, ◌∙◌}
use mathlib.Core.Logic.{inl, inr}
use Rattle.std.proofs.Math.Logic.{⊎_elim}
use native.Mathlib.Omega.{arith}
use Prim.Native.Nat.{◌≤◌}
use lib.ListN.{length}
use Rattle.std.specs.Prelude.{None, Err}
use Rattle.std.specs.Result.{result_ok}
use Rattle.std.proofs.lemmas.Result.{err_from_is_err_and}
use Rattle.layout.specs.declared.errno.Errno.TheVariants as Errno
use Rattle.layout.proofs.ContentsLaws.{contents_good, contents_bad}
use Rattle.recover.specs.Answers.{RecoverAnswers}
use Rattle.recover.specs.Job.{by_journal}
use Rattle.recover.proofs.JobLaws.{recovered_short, recovered_layout, recovered_read}
use Rattle.recover.proofs.Outs.{recovered_as, answers_refused}
use Rattle.recover.proofs.recover.Goals as goal

pub returns-then-plan-lt-BYTES : goal.returns-then-plan-lt-BYTES
returns-then-plan-lt-BYTES c =
    let args = c.args in
    answers_refused args.plan.now args.scratch.now args.image.now Errno.ShortBuffer
    (recovered_short args.plan.now args.scratch.now args.image.now (⊎_elim inl (λ b. inr b.1) c.then-plan-lt-BYTES.either))

pub returns-in_err-image : goal.returns-in_err-image
returns-in_err-image c =
    let none : c.read.result ≡ None = c.ok_or.ensures.ok_part ∙ ap result_ok c.in_err-image.was in
    let is : c.ok_or.result ≡ Err Errno.Inconsistent = c.ok_or.ensures.value ∙ rw none in
    let same : c.in_err-image.field-0.0 ≡ Errno.Inconsistent = cc (is, c.in_err-image.was) in
    let p = err_from_is_err_and c.from_residual.result c.from_residual.ensures.1 in
    let bad = contents_bad _ (rw none at c.read.ensures) in
    let room : length c.args.image.now ≤ length c.args.scratch.now = omega arith in
    rw (p.1, p.2, same) (answers_refused c.args.plan.now c.args.scratch.now c.args.image.now Errno.Inconsistent (recovered_layout _ _ _ c.if-plan-lt-BYTES.false room bad))

pub by_journal-requires : goal.by_journal-requires
by_journal-requires c =
    let some = c.ok_or.ensures.ok_part ∙ ap result_ok c.in_ok-image.was in
    let read = rw some at c.read.ensures in
    let room : length c.args.image.now ≤ length c.args.scratch.now = omega arith in
    (c.if-plan-lt-BYTES.false, rw read.1 room, rw read.1 (contents_good _ _ read.0))

pub returns : goal.returns
returns c =
    let args = c.args in
    let h = c.in_ok-image.image.shape in
    let some = c.ok_or.ensures.ok_part ∙ ap result_ok c.in_ok-image.was in
    let read = rw some at c.read.ensures in
    let room : length c.args.image.now ≤ length c.args.scratch.now = omega arith in
    let fits = recovered_read args.plan.now args.scratch.now args.image.now c.if-plan-lt-BYTES.false room h (contents_good _ _ read.0) in
    let answers = subst (λ s. RecoverAnswers (by_journal args.plan.now args.scratch.now s h) c.by_journal.result c.by_journal.new.plan c.by_journal.new.scratch)
    read.1 c.by_journal.ensures in
    recovered_as answers (sym fits)
