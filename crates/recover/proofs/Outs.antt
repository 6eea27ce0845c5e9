-- The ways out of the job that recovers an image. Assumes nothing.
use Rattle.std.specs.Prelude.{◌≡◌, ◌≢◌, Bool, ℕ, ◌+◌, ◌≤◌, take, drop, Result, Ok, Err, Some, None}
use Rattle.std.specs.Result.{result_unwrap_or}
use Rattle.std.proofs.Math.Path.{refl, sym, ap}
use Rattle.std.proofs.Common.{◌∙◌, subst, zero-add, arith, length-take-le}
use Rattle.std.proofs.Math.Bool.{true, false, cond}
use mathlib.Core.List.{List, [], ◌∷◌, ◌++◌}
use Rattle.std.proofs.Math.Option.{Option, none, some}
use Rattle.std.proofs.Math.ListN.{length, replicate, length-map}
use Rattle.std.proofs.lemmas.List.{length-replicate}
use Rattle.seq.specs.Bytes.{put}
use Rattle.seq.specs.Truth.{refuted}
use Rattle.seq.proofs.BytesLaws.{put_eq, put_whole}
use Rattle.layout.specs.declared.Shape.{Shape}
use Rattle.layout.specs.declared.errno.Errno.{Errno}
use Rattle.layout.specs.declared.errno.Errno.TheVariants.{Inconsistent, NotRecoverable}
use Rattle.layout.specs.Code.{number, code}
use Rattle.layout.specs.Facts.{Read}
use Rattle.consistency.specs.Sound.{journal_clear, bodies_good}
use Rattle.consistency.specs.Consistent.{consistent, check_number}
use Rattle.consistency.proofs.ConsistentLaws.{checked_consistent, consistent_checked}
use Rattle.plan.specs.Form.{Row, plan_rows, plan_bytes, rows_put, cleared}
use Rattle.plan.specs.declared.rows.Rows.{Rows}
use Rattle.plan.specs.Added.{no_rows, BodyFits, Added}
use Rattle.plan.specs.Stands.{RowFormed, Each}
use Rattle.plan.proofs.Many.{rows_length}
use Rattle.plan.proofs.Copied.{rows_copied}
use Rattle.plan.proofs.AddedLaws.{rows_stored}
use Rattle.plan.specs.Write.{Write, store_all, rows_from}
use Rattle.plan.specs.Filled.{AllWrites, Filled}
use Rattle.drafts.specs.Draft.{draft}
use Rattle.rename_drafts.specs.Drafted.{Drafted}
use Rattle.drafts.proofs.DraftLaws.{draft_writes}
use Rattle.recover.specs.Recover.{if_consistent, pending_rows}
use Rattle.recover.specs.Job.{Recovered, outcome_of, refused, done, by_rows, by_journal, recovered}
use Rattle.recover.proofs.Bounds.{draft_rows, recovered_few}
use Rattle.recover.specs.Outcome.{applied_from}
use Rattle.recover.proofs.OutcomeLaws.{stored_length, rows_formed, rows_applied}
use Rattle.recover.specs.Answers.{RecoverAnswers, DraftReady}

pub recovered_as : {o p : Recovered} {r : Result ℕ Errno} {plan scratch : List ℕ} → RecoverAnswers o r plan scratch → o ≡ p → RecoverAnswers p r plan scratch
recovered_as {o} {p} {r} {plan} {scratch} a e = subst (λ (q : Recovered). RecoverAnswers q r plan scratch) e a

-- the rows fit a plan
pub answers_few : (plan scratch x : List ℕ) {r : Result ℕ Errno} {q z : List ℕ} → RecoverAnswers (recovered plan scratch x) r q z → result_unwrap_or r 0 ≤ plan_rows
answers_few plan scratch x a = subst (λ (n : ℕ). n ≤ plan_rows) (sym a.rows) (recovered_few plan scratch x)

-- a refusal leaves both buffers as they were
pub answers_refused : (plan scratch x : List ℕ) (e : Errno) {o : Recovered} → o ≡ refused plan scratch x (number e) → RecoverAnswers o (Err e) plan scratch
answers_refused plan scratch x e is = recovered_as (record { number = refl; rows = refl; plan_is = refl; scratch_is = refl }) (sym is)

-- so it does whatever number it has, and an answer of that number and no rows says so
pub refused_whole : (plan scratch x : List ℕ) (n : ℕ) {o : Recovered} → o ≡ refused plan scratch x n
    → (n ≡ o.number) × (0 ≡ o.rows) × (plan ≡ o.plan) × (scratch ≡ o.scratch)
refused_whole plan scratch x n is =
    subst (λ (p : Recovered). (n ≡ p.number) × (0 ≡ p.rows) × (plan ≡ p.plan) × (scratch ≡ p.scratch)) (sym is) (refl, refl, refl, refl)

pub refused_as : (plan scratch x : List ℕ) (n : ℕ) {o : Recovered} {r : Result ℕ Errno} → o ≡ refused plan scratch x n → code r ≡ n → result_unwrap_or r 0 ≡ 0
    → RecoverAnswers o r plan scratch
refused_as plan scratch x n is numbered empty =
    recovered_as {o = refused plan scratch x n} (record { number = numbered; rows = empty; plan_is = refl; scratch_is = refl }) (sym is)

-- it is exactly a plan
pub ready_exact : {x : List ℕ} {h : Shape} {d : Rows} → DraftReady x h d → length d.bytes ≡ plan_bytes
ready_exact {x} {h} {d} ready = go (draft h x) ready.drafted
  where
    go : (o : Option (List Write)) → Drafted h o (Some d) → length d.bytes ≡ plan_bytes
    go none f = absurd f
    go (some ws) f = ap (λ (xs : List ℕ). length xs) f.filled.plan ∙ rows_length (rows_from h ws) (replicate plan_bytes 0) 0 ∙ length-replicate {A = ℕ} plan_bytes 0

-- what scratch shows is as long as the image
pub outcome_length : (h : Shape) (x : List ℕ) (o : Option (List Write)) → length (outcome_of h x o) ≡ length x
outcome_length h x none = length-replicate (length x) 0
outcome_length h x (some ws) = stored_length h ws x

-- not recoverable
pub answers_none : (plan scratch x : List ℕ) (h : Shape) → length scratch ≡ length x → pending_rows h x ≡ none → (z : List ℕ) → z ≡ replicate (length scratch) 0
    → RecoverAnswers (by_rows plan scratch x h (pending_rows h x)) (Err NotRecoverable) plan z
answers_none plan scratch x h whole e z f =
    recovered_as (record {
      number = refl;
      rows = refl;
      plan_is = refl;
      scratch_is = f ∙ ap (λ (n : ℕ). replicate n 0) whole
          ∙ sym (put_whole scratch (replicate (length x) 0) (whole ∙ sym (length-replicate (length x) 0)));
    }) (ap (by_rows plan scratch x h) (sym e))

-- a record that does not fit is not recoverable
pub unfit_none : (h : Shape) (x : List ℕ) → Drafted h (draft h x) None → pending_rows h x ≡ none
unfolding pending_rows
unfit_none h x f = ap (if_consistent h x) (go (draft h x) f)
  where
    go : (o : Option (List Write)) → Drafted h o None → o ≡ none
    go none f = refl
    go (some ws) f = absurd f

-- rows that are formed have bodies that fit
pub bodies_fit : (rs : List Row) → Each RowFormed rs → Each BodyFits rs
bodies_fit [] formed = tt
bodies_fit (r ∷ rs) formed = (omega (arith, formed.0.whole, formed.0.body_fits), bodies_fit rs formed.1)

-- settled: the rows of the draft, by their outcome
module _ (plan scratch x : List ℕ) (h : Shape) (whole : length scratch ≡ length x) (long : plan_bytes ≤ length plan) (read : Read x h) where
  module _ (ws : List Write) (is : draft h x ≡ some ws) (d : Rows) (a : Added h no_rows ws d) where
    abbrev few : length ws ≤ plan_rows
    few = draft_rows h x ws is

    outcome_is : applied_from (put scratch 0 x) d.bytes 0 d.count ≡ store_all h x ws
    outcome_is =
        let e : d.count ≡ length ws = omega (arith, a.filled.next) in
        let exact : plan_bytes ≤ length no_rows.bytes = omega (arith, length-replicate {A = ℕ} plan_bytes 0) in
        rw (put_whole scratch x whole, e, a.filled.plan) (rows_applied h no_rows.bytes exact ws few (draft_writes h x read.laid ws is) x read)

    module _ (y : List ℕ) (outcome : y ≡ applied_from (put scratch 0 x) d.bytes 0 d.count) where
      stored : y ≡ store_all h x ws
      stored = outcome ∙ outcome_is

      rows_refused : check_number y ≢ 0 → (z : List ℕ) → z ≡ replicate (length y) 0
          → RecoverAnswers (by_rows plan scratch x h (pending_rows h x)) (Err NotRecoverable) plan z
      unfolding pending_rows
      rows_refused bad z e =
          let not-consistent : consistent (store_all h x ws) ≡ false = refuted _ (λ t. bad (ap check_number stored ∙ consistent_checked _ t)) in
          answers_none plan scratch x h whole
          (ap (if_consistent h x) is ∙ ap (λ (b : Bool). cond b (some ws) none) not-consistent) z
          (e ∙ ap (λ (xs : List ℕ). replicate (length xs) 0) stored ∙ ap (λ (n : ℕ). replicate n 0) (stored_length h ws x ∙ sym whole))

      rows_done : check_number y ≡ 0 → (q : List ℕ) → q ≡ put plan 0 d.bytes
          → RecoverAnswers (by_rows plan scratch x h (pending_rows h x)) (Ok d.count) q y
      unfolding pending_rows
      rows_done fine q e =
          let good : consistent (store_all h x ws) ≡ true = ap consistent (sym stored) ∙ checked_consistent y fine in
          let copied = rows_stored h plan long few a in
          recovered_as (record {
            number = refl;
            rows = copied.1;
            plan_is = e ∙ copied.0;
            scratch_is = stored ∙ sym (put_whole scratch (store_all h x ws) (whole ∙ sym (stored_length h ws x)));
          }) (ap (by_rows plan scratch x h) (sym (ap (if_consistent h x) is ∙ ap (λ (b : Bool). cond b (some ws) none) good)))

  -- put from any plan of zeros on, they are what an operation owes, and copied over the buffer they are in the cleared plan
  module _ (ws : List Write) (is : draft h x ≡ some ws) (base : List ℕ) (blank : base ≡ replicate plan_bytes 0) (d : List ℕ) (n : ℕ) (f : Filled h base 0 ws d n) where
    abbrev owed : AllWrites h ws
    owed = draft_writes h x read.laid ws is

    exact : length base ≡ plan_bytes
    exact = ap (λ (xs : List ℕ). length xs) blank ∙ length-replicate {A = ℕ} plan_bytes 0

    copied : put plan 0 d ≡ rows_put (cleared plan) 0 (rows_from h ws)
    unfolding cleared
    copied =
        let m : length (rows_from h ws) ≡ length ws = length-map ws _ in
        let few : length ws ≤ plan_rows = draft_rows h x ws is in
        ap (λ (xs : List ℕ). put plan 0 xs) f.plan
        ∙ sym (rows_copied plan long (rows_from h ws) base 0 exact (omega (arith, few)) (bodies_fit (rows_from h ws) (rows_formed h x read ws owed)))
        ∙ ap (λ (xs : List ℕ). rows_put (put plan 0 xs) 0 (rows_from h ws)) blank

  module _ (d : Rows) (ready : DraftReady x h d) (y : List ℕ) (outcome : y ≡ applied_from (put scratch 0 x) d.bytes 0 d.count) where
    pub settle_refused : check_number y ≢ 0 → (z : List ℕ) → z ≡ replicate (length y) 0
        → RecoverAnswers (by_rows plan scratch x h (pending_rows h x)) (Err NotRecoverable) plan z
    settle_refused bad z e = go (draft h x) refl ready.drafted
      where
        go : (o : Option (List Write)) → draft h x ≡ o → Drafted h o (Some d)
            → RecoverAnswers (by_rows plan scratch x h (pending_rows h x)) (Err NotRecoverable) plan z
        go none is f = absurd f
        go (some ws) is f = rows_refused ws is d f y outcome bad z e

    pub settle_done : check_number y ≡ 0 → (q : List ℕ) → q ≡ put plan 0 d.bytes
        → RecoverAnswers (by_rows plan scratch x h (pending_rows h x)) (Ok d.count) q y
    settle_done fine q e = go (draft h x) refl ready.drafted
      where
        go : (o : Option (List Write)) → draft h x ≡ o → Drafted h o (Some d)
            → RecoverAnswers (by_rows plan scratch x h (pending_rows h x)) (Ok d.count) q y
        go none is f = absurd f
        go (some ws) is f = rows_done ws is d f y outcome fine q e

-- ---- by the journal record

module _ (plan scratch x : List ℕ) (h : Shape) where
  -- set: pending works on the front of scratch, and what lies behind it stays
  module _ (room : length x ≤ length scratch) where
    front_put : (o : Option (List Write)) → put (take (length x) scratch) 0 (outcome_of h x o) ++ drop (length x) scratch ≡ put scratch 0 (outcome_of h x o)
    front_put o =
        let n = outcome_length h x o in
        let l : length (take (length x) scratch) ≡ length x = length-take-le (length x) scratch room in
        let m : 0 + length (outcome_of h x o) ≡ length x = zero-add _ ∙ n in
        ap (λ (ys : List ℕ). ys ++ drop (length x) scratch) (put_whole (take (length x) scratch) (outcome_of h x o) (l ∙ sym n))
        ∙ ap (λ (k : ℕ). outcome_of h x o ++ drop k scratch) (sym m) ∙ sym (put_eq scratch 0 (outcome_of h x o) (omega arith))

    front_answers : (o : Option (List Write)) {r : Result ℕ Errno} {q front : List ℕ} → RecoverAnswers (by_rows plan (take (length x) scratch) x h o) r q front
        → RecoverAnswers (by_rows plan scratch x h o) r q (front ++ drop (length x) scratch)
    front_answers none a = record { number = a.number; rows = a.rows; plan_is = a.plan_is; scratch_is = ap (λ (ys : List ℕ). ys ++ drop (length x) scratch) a.scratch_is ∙ front_put none }
    front_answers (some ws) a = record { number = a.number; rows = a.rows; plan_is = a.plan_is; scratch_is = ap (λ (ys : List ℕ). ys ++ drop (length x) scratch) a.scratch_is ∙ front_put (some ws) }

    pub answers_pending : journal_clear h x ≡ false → {r : Result ℕ Errno} {q front : List ℕ} → RecoverAnswers (by_rows plan (take (length x) scratch) x h (pending_rows h x)) r q front
        → RecoverAnswers (by_journal plan scratch x h) r q (front ++ drop (length x) scratch)
    answers_pending set a = recovered_as (front_answers (pending_rows h x) a) (rw set)

  -- clear: the bodies decide
  module _ (read : Read x h) (clear : journal_clear h x ≡ true) where
    by_bodies : consistent x ≡ bodies_good h x
    unfolding consistent
    by_bodies = rw (read.good, ← read.shape, clear)

    pub answers_unsound : bodies_good h x ≡ false → RecoverAnswers (by_journal plan scratch x h) (Err Inconsistent) plan scratch
    answers_unsound bad = recovered_as (record { number = refl; rows = refl; plan_is = refl; scratch_is = refl }) (rw (clear, by_bodies, bad))

    pub answers_nothing : bodies_good h x ≡ true → {q z : List ℕ} → q ≡ cleared plan → z ≡ put scratch 0 x → RecoverAnswers (by_journal plan scratch x h) (Ok 0) q z
    unfolding rows_put
    answers_nothing good e f = recovered_as {o = done plan scratch x h []} (record { number = refl; rows = refl; plan_is = e; scratch_is = f }) (rw (clear, by_bodies, good))
