-- What an operation gets for its rows by group, record and bytes: the crash theorem on the jobs of its plan. Assumes nothing.
use Rattle.std.specs.Prelude.{◌≡◌, ◌≢◌, Bool, true, false, not, List, ℕ, ◌≤◌, T, length}
use Rattle.std.proofs.Common.{◌∙◌, subst}
use Rattle.std.proofs.Math.Option.{Option, none}
use Rattle.layout.specs.declared.Shape.{Shape}
use Rattle.layout.specs.Place.{Key}
use Rattle.plan.specs.Form.{plan_rows, plan_bytes, count_of_rows}
use Rattle.plan.specs.Jobs.{Job, jobs_in}
use Rattle.plan.specs.Write.{Write, store_all}
use Rattle.apply.specs.Apply.{apply_number}
use Rattle.crash_theorem.specs.Pick.{All}
use Rattle.crash_theorem.specs.Store.{Spares, put_all}
use Rattle.crash_theorem.specs.Change.{Change, plan}
use Rattle.crash_theorem.specs.Events.{EventOf, State, decided}
use Rattle.crash_theorem.specs.Obligations.{OnTheWay, Obligations}
use Rattle.crash_theorem.specs.Crash.{Safe}
use Rattle.crash_theorem.proofs.CrashProof.{crash_safe}
use Rattle.crash_theorem.specs.Order.{Permitted, Sorted}
use Rattle.crash_theorem.proofs.OrderLaws.{sorted_permitted, any_order}
use Rattle.crash_theorem.proofs.FormLaws.{do_sorted, way_said}
use Rattle.crash_theorem.specs.Plan.{Plan, WellFormed, Recovers, ByRow, created_of, decide_row, writes, after_of, change}
use Rattle.crash_theorem.proofs.Planned.{decided_record, undecided_record}
use Rattle.image_store.specs.Image.{record_of}
use Rattle.image_store.proofs.ImageLaws.{images, puts_store}
use Rattle.image_store.specs.Buffers.{Buffers, enough}
use Rattle.image_store.proofs.JobLaws.{jobs, answers_zero}
use Rattle.image_store.proofs.JobForm.{job_form}
use Rattle.image_store.specs.Recovery.{RecoveryJob, AnswersRows}
use Rattle.image_store.proofs.RecoveryLaws.{answer_zero}
use Rattle.image_store.proofs.Operation.{rows_in, planned_change, state_after}
use Rattle.image_store.proofs.Owed.{rows_fit, rows_do, first_waiting, carries, orderly_jobs, obligations_jobs}
use Rattle.image_store.specs.JobRows.{plan_of}
use Rattle.image_store.proofs.JobRowsLaws.{plan_count}

module _ (h : Shape) (s₀ : List ℕ) (p : Plan (images h s₀)) (𝓦 : WellFormed (images h s₀) p) where
  -- the image after is the one before with every record stored that the rows write
  pub after_stored : after_of (images h s₀) p ≡ store_all h p.before (writes (images h s₀) p)
  after_stored = puts_store h s₀ p.before (writes (images h s₀) p) 𝓦.fits

  module _ (buffer : List ℕ) (long : plan_bytes ≤ length buffer) (room : length (rows_in h s₀ p) ≤ plan_rows) where
    -- ---- without a crash

    -- a recovery that no event calls
    idle : RecoveryJob
    idle = record { number = λ b s. 1; plan = λ b s. b.plan }

    -- the plan has as many rows as the operation
    pub planned_count : count_of_rows (plan_of h buffer (rows_in h s₀ p)) ≡ length (rows_in h s₀ p)
    planned_count = plan_count h p.before 𝓦.ok.read buffer (rows_in h s₀ p) long room (rows_fit h s₀ p (λ s. none) buffer idle 𝓦 long room)

    -- in any permitted order of the jobs
    pub planned_whole : (js : List Job) → Permitted (jobs h s₀) (jobs_in (plan_of h buffer (rows_in h s₀ p))) js
        → put_all (jobs h s₀) p.before js ≡ store_all h p.before (writes (images h s₀) p)
    planned_whole js o =
        let first = first_waiting h s₀ p (λ s. none) buffer idle 𝓦 long room in
        any_order (planned_change h s₀ p buffer idle) (orderly_jobs h s₀ p (λ s. none) buffer idle 𝓦 long room) {rs = js} (rw first o) ∙ after_stored

    -- in the order of their numbers, if the rows stand in the order of their groups
    pub planned_in_order : Sorted (images h s₀) (rows_in h s₀ p)
        → put_all (jobs h s₀) p.before (jobs_in (plan_of h buffer (rows_in h s₀ p))) ≡ store_all h p.before (writes (images h s₀) p)
    planned_in_order sorted =
        let does = rows_do h s₀ p (λ s. none) buffer idle 𝓦 long room in
        let js = jobs_in (plan_of h buffer (rows_in h s₀ p)) in
        planned_whole js (sorted_permitted (jobs h s₀) js (do_sorted (job_form h s₀) js (rows_in h s₀ p) does sorted))

    -- ---- with crashes: what recovery does is the one thing left to supply

    module _ (recover : List ℕ → Option (List Write)) (ρ : Recovers (images h s₀) p recover) (𝓡 : RecoveryJob) (𝓐 : AnswersRows h s₀ recover 𝓡) where
      abbrev 𝓙 : Change (jobs h s₀)
      𝓙 = planned_change h s₀ p buffer 𝓡

      abbrev after : List (EventOf (jobs h s₀)) → State (List ℕ) Job
      after es = state_after h s₀ p buffer 𝓡 es

      -- all rows of the plan's bytes wait at first
      pub planned_first : plan 𝓙 ≡ jobs_in (plan_of h buffer (rows_in h s₀ p))
      planned_first = first_waiting h s₀ p recover buffer 𝓡 𝓦 long room

      pub planned_owed : Obligations 𝓙
      planned_owed = obligations_jobs h s₀ p recover buffer 𝓡 𝓦 long room ρ 𝓐

      -- The crash theorem for the operation, on bytes: after every list of events,
      pub planned_safe : (es : List (EventOf (jobs h s₀))) → Safe 𝓙 (after es)
      planned_safe es = crash_safe 𝓙 planned_owed es

      -- apply answers 0 for each row that waits,
      pub planned_zero : (es : List (EventOf (jobs h s₀))) → All (λ j. apply_number (after es).img j.plan j.number ≡ 0) (after es).waiting
      planned_zero es = answers_zero h s₀ (after es).img (after es).waiting (planned_safe es).accepted

      module _ (es : List (EventOf (jobs h s₀))) (b : Buffers) where
        -- recovery answers 0 with any buffers that are long enough,
        pub planned_recovers : T (enough b (after es).img) → 𝓡.number b (after es).img ≡ 0
        planned_recovers t = let (js, e) = (planned_safe es).recoverable b t in answer_zero (𝓡.number b (after es).img) _ js e

        -- and refuses with any that are too short;
        pub planned_refuses : T (not (enough b (after es).img)) → 𝓡.number b (after es).img ≢ 0
        planned_refuses t = 𝓐.refuses b (after es).img (planned_safe es).on_the_way.ok t

      module _ (es : List (EventOf (jobs h s₀))) where
        -- the image is on the way, by rows as by jobs
        pub planned_way : (d : Bool) → decided 𝓙 (after es) ≡ d → OnTheWay (change (images h s₀) p recover) d (after es).img
        planned_way d e =
            way_said (carries h s₀ p recover buffer 𝓡 𝓦 long room) d (after es).img
            (subst (λ (d : Bool). OnTheWay 𝓙 d (after es).img) e (planned_safe es).on_the_way)

        -- once decided, the deciding record is as its row writes it;
        pub planned_decided : ByRow p.decider → decided 𝓙 (after es) ≡ true
            → record_of h (after es).img (decide_row (images h s₀) p).key ≡ (decide_row (images h s₀) p).body
        planned_decided b e = decided_record p recover 𝓦 b (planned_way true e)

        -- and until then every record that the operation does not create is as before.
        pub planned_undecided : decided 𝓙 (after es) ≡ false → (k : Key) → k ≢ p.set.key → Spares (images h s₀) (created_of p.decider) k
            → record_of h (after es).img k ≡ record_of h p.before k
        planned_undecided e k n s = undecided_record p recover 𝓦 (planned_way false e) k n s
