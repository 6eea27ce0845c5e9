-- The ways out of the job that recovers an image, for a draft as a plan's bytes and the number of its rows. Assumes nothing.
use Rattle.std.specs.Prelude.{◌≡◌, ◌≢◌, Ok, Err, Some, List, ℕ, ◌≤◌, length, replicate}
use Rattle.std.proofs.Math.Path.{sym, ap, subst}
use Rattle.std.proofs.Common.{◌∙◌, arith}
use Rattle.std.proofs.Math.Option.{Option, some}
use Rattle.std.proofs.lemmas.List.{length-replicate}
use Rattle.seq.specs.Bytes.{put}
use Rattle.seq.proofs.BytesLaws.{put_whole}
use Rattle.layout.specs.declared.Shape.{Shape}
use Rattle.layout.specs.declared.errno.Errno.TheVariants.{NotRecoverable}
use Rattle.layout.specs.Facts.{Read}
use Rattle.consistency.specs.Consistent.{check_number}
use Rattle.plan.specs.Form.{plan_rows, plan_bytes}
use Rattle.plan.specs.declared.rows.Rows.{Rows}
use Rattle.plan.specs.Write.{Write, store_all, rows_from}
use Rattle.plan.specs.Filled.{Filled}
use Rattle.drafts.specs.Draft.{draft}
use Rattle.rename_drafts.specs.Drafted.{Drafted}
use Rattle.drafts.proofs.DraftLaws.{draft_writes}
use Rattle.recover.specs.Recover.{pending_rows}
use Rattle.recover.specs.Job.{by_rows}
use Rattle.recover.specs.Outcome.{applied_from}
use Rattle.recover.specs.Answers.{RecoverAnswers, DraftReady}
use Rattle.recover.proofs.Bounds.{draft_rows}
use Rattle.recover.proofs.OutcomeLaws.{rows_formed, rows_applied}
use Rattle.recover.proofs.Outs.{bodies_fit, settle_refused, settle_done}

module _ (plan scratch x : List ℕ) (h : Shape) (whole : length scratch ≡ length x) (long : plan_bytes ≤ length plan) (read : Read x h) where
  module _ (ws : List Write) (is : draft h x ≡ some ws) (base : List ℕ) (blank : base ≡ replicate plan_bytes 0) (d : List ℕ) (n : ℕ) (f : Filled h base 0 ws d n) where
    abbrev few : length ws ≤ plan_rows
    few = draft_rows h x ws is

    outcome_is : applied_from (put scratch 0 x) d 0 n ≡ store_all h x ws
    outcome_is =
        let e : n ≡ length ws = omega (arith, f.next) in
        let exact : length base ≡ plan_bytes = ap (λ (xs : List ℕ). length xs) blank ∙ length-replicate {A = ℕ} plan_bytes 0 in
        rw (put_whole scratch x whole, e, f.plan) (rows_applied h base (omega (arith, exact)) ws few (draft_writes h x read.laid ws is) x read)

    -- so the draft is ready
    abbrev rows : Rows
    rows = record { bytes = d; count = n }

    ready : DraftReady x h rows
    ready =
        let fits = bodies_fit (rows_from h ws) (rows_formed h x read ws (draft_writes h x read.laid ws is)) in
        record {
          read = read;
          drafted = subst (λ (o : Option (List Write)). Drafted h o (Some rows)) (sym is)
              (record { filled = subst (λ (b : List ℕ). Filled h b 0 ws d n) blank f; fits = fits });
        }

    module _ (y : List ℕ) (outcome : y ≡ applied_from (put scratch 0 x) d 0 n) where
      stored : y ≡ store_all h x ws
      stored = outcome ∙ outcome_is

      rows_refused : check_number y ≢ 0 → (z : List ℕ) → z ≡ replicate (length y) 0
          → RecoverAnswers (by_rows plan scratch x h (pending_rows h x)) (Err NotRecoverable) plan z
      rows_refused = settle_refused plan scratch x h whole long read rows ready y outcome

      rows_done : check_number y ≡ 0 → (q : List ℕ) → q ≡ put plan 0 d → RecoverAnswers (by_rows plan scratch x h (pending_rows h x)) (Ok n) q y
      rows_done = settle_done plan scratch x h whole long read rows ready y outcome
