-- A planned operation that recovery can finish survives whatever befalls it: the crash theorem on bytes, its plan applied row by row, crashes anywhere,
-- recovery's plans applied in turn. Assumes nothing.
use Rattle.std.specs.Prelude.{◌≡◌, refl, ◌≢◌, false, not, List, ℕ, ◌≤◌, ◌<◌, T, length}
use Rattle.std.proofs.Common.{sym, ap, ◌∙◌, arith, lit<}
use Rattle.std.proofs.Math.Option.{some}
use Rattle.layout.specs.declared.Shape.{Shape}
use Rattle.layout.specs.Errno.{short_buffer}
use Rattle.layout.specs.Facts.{Valid}
use Rattle.layout.specs.View.{entry_at}
use Rattle.plan.specs.Form.{plan_rows, plan_bytes}
use Rattle.plan.specs.Jobs.{jobs_in}
use Rattle.plan.specs.Write.{Write, entry_key, journal_key}
use Rattle.plan.proofs.WriteLaws.{other_section}
use Rattle.crash_theorem.specs.Store.{Spares}
use Rattle.crash_theorem.specs.Change.{plan}
use Rattle.crash_theorem.specs.Events.{EventOf, decided}
use Rattle.crash_theorem.specs.Crash.{Safe}
use Rattle.crash_theorem.specs.Plan.{created_of, Plan, decide_row, after_of, WellFormed, Recovers}
use Rattle.recover.specs.Recover.{recover}
use Rattle.recover.specs.Job.{Recovered}
use Rattle.recover.proofs.JobLaws.{recovered_short, recovered_done}
use Rattle.recover.proofs.Bounds.{recover_few}
use Rattle.image_store.specs.Image.{Ok}
use Rattle.image_store.proofs.ImageLaws.{record_is, images}
use Rattle.image_store.specs.Buffers.{Buffers, enough}
use Rattle.image_store.proofs.BuffersLaws.{enough_is, too_short}
use Rattle.image_store.proofs.JobLaws.{jobs}
use Rattle.image_store.specs.Recovery.{Fills, AnswersRows}
use Rattle.image_store.proofs.Operation.{rows_in}
use Rattle.image_store.proofs.Owed.{carries}
use Rattle.image_store.proofs.Safe.{planned_first, planned_safe, planned_recovers, planned_refuses, planned_way, planned_undecided}
use Rattle.image_store.specs.Mixed.{Mixed}
use Rattle.image_store.proofs.MixedLaws.{way_mixed}
use Rattle.image_store.specs.JobRows.{plan_of}
use Rattle.rename_survives.specs.Run.{recovery_job}
use Rattle.rename_survives.specs.PlanSurvives.{plan_jobs, plan_state}

-- the job recovery does what the rows by record say, and refuses buffers that are too short
pub recovery_answers : (h : Shape) (s : List ℕ) → AnswersRows h s (recover h) recovery_job
unfolding plan_of
recovery_answers h s = record { fills = fills; refuses = refuses }
  where
    fills : (b : Buffers) (x : List ℕ) → Ok h s x → T (enough b x) → (ws : List Write) → recover h x ≡ some ws → Fills h recovery_job b x ws
    fills b x o t ws e =
        let (long, room) = enough_is b x t in
        let d = recovered_done b.plan b.scratch x long room h ws o.read e in
        record { success = ap (λ (r : Recovered). r.number) d; filled = ap (λ (r : Recovered). r.plan) d; room = recover_few h x ws e }

    refuses : (b : Buffers) (x : List ℕ) → Ok h s x → T (not (enough b x)) → recovery_job.number b x ≢ 0
    refuses b x o t e =
        let z : short_buffer ≡ 0 = sym (ap (λ (r : Recovered). r.number) (recovered_short b.plan b.scratch x (too_short b x t))) ∙ e in
        omega arith

module _ {h : Shape} {s : List ℕ} {p : Plan (images h s)} (𝓦 : WellFormed (images h s) p) (ρ : Recovers (images h s) p (recover h))
    (few : length (rows_in h s p) ≤ plan_rows) (buffer : List ℕ) (long : plan_bytes ≤ length buffer) where
  -- at first all rows of the plan's bytes wait
  pub plan_first : plan (plan_jobs h s p buffer) ≡ jobs_in (plan_of h buffer (rows_in h s p))
  plan_first = planned_first h s p 𝓦 buffer long few (recover h) ρ recovery_job (recovery_answers h s)

  -- the deciding one is of the group that its row says
  pub plan_group : (jobs h s).group (plan_jobs h s p buffer).decide ≡ (decide_row (images h s) p).group
  plan_group = ap (λ (w : Write). w.group) (carries h s p (recover h) buffer recovery_job 𝓦 long few).decide.row

  module _ (es : List (EventOf (jobs h s))) where
    -- the image is on the way, what waits can be applied, and once recovery's rows are through it is the image before or the one after, by whether the
    -- deciding row was applied
    pub plan_safe : Safe (plan_jobs h s p buffer) (plan_state h s p buffer es)
    plan_safe = planned_safe h s p 𝓦 buffer long few (recover h) ρ recovery_job (recovery_answers h s) es

    -- recovery answers 0 with buffers that are long enough, and refuses any others
    pub plan_recovers : (b : Buffers) → T (enough b (plan_state h s p buffer es).img) → recovery_job.number b (plan_state h s p buffer es).img ≡ 0
    plan_recovers b t = planned_recovers h s p 𝓦 buffer long few (recover h) ρ recovery_job (recovery_answers h s) es b t

    pub plan_refuses : (b : Buffers) → T (not (enough b (plan_state h s p buffer es).img)) → recovery_job.number b (plan_state h s p buffer es).img ≢ 0
    plan_refuses b t = planned_refuses h s p 𝓦 buffer long few (recover h) ρ recovery_job (recovery_answers h s) es b t

    -- on the way every record but the journal's is as before or as after,
    pub plan_mixed : {t : List ℕ} → p.set.key ≡ journal_key → after_of (images h s) p ≡ t → Mixed h p.before t (plan_state h s p buffer es).img
    plan_mixed journal is =
        way_mixed p journal is (decided (plan_jobs h s p buffer) (plan_state h s p buffer es))
        (planned_way h s p 𝓦 buffer long few (recover h) ρ recovery_job (recovery_answers h s) es _ refl)

    -- and until the deciding row is applied an entry that the operation does not create is as before
    pub plan_entry : p.set.key ≡ journal_key → decided (plan_jobs h s p buffer) (plan_state h s p buffer es) ≡ false → (j : ℕ) → j < h.entries
        → Spares (images h s) (created_of p.decider) (entry_key j) → entry_at h (plan_state h s p buffer es).img j ≡ entry_at h p.before j
    plan_entry journal e j l spares =
        let valid : Valid h (entry_key j) = record { in_image = lit< tt; in_section = l } in
        sym (record_is h _ (entry_key j) valid)
        ∙ planned_undecided h s p 𝓦 buffer long few (recover h) ρ recovery_job (recovery_answers h s) es e (entry_key j) (rw journal (other_section _ _ (λ z. omega arith))) spares
        ∙ record_is h p.before (entry_key j) valid
