-- The ways out of the job rename: refused before any walk, by a walk, or answered by the steps. Assumes nothing.
use Rattle.std.proofs.Math.Path.{◌≡◌, refl, sym, ap}
use Rattle.std.proofs.Common.{◌∙◌, arith, eq-eqb, ne_eqb, lt-ltb, le-ltb}
use Rattle.std.specs.Prelude.{◌≢◌, Bool, cond, List, ◌++◌, ℕ, ◌≤◌, ◌<◌, length}
use Rattle.std.proofs.Math.Bool.{true, false}
use Rattle.std.proofs.Math.Decide.{ℕ_discrete}
use Rattle.layout.specs.declared.Shape.{Shape}
use Rattle.layout.specs.Errno.{EINVAL, short_buffer, inconsistent, wrong_request}
use Rattle.layout.specs.Facts.{Read}
use Rattle.layout.specs.Contents.{layout_good}
use Rattle.layout.specs.View.{View, view_of}
use Rattle.consistency.specs.Sound.{journal_clear, bodies_good}
use Rattle.consistency.specs.Consistent.{records_number}
use Rattle.paths.specs.declared.request.Request.{Request}
use Rattle.paths.specs.Request.{request_good}
use Rattle.paths.specs.Flags.{flags_good}
use Rattle.walk.specs.Walk.{halt}
use Rattle.walk.specs.Both.{Ends, walks_of, new_walk}
use Rattle.refusals.specs.Answered.{Answer}
use Rattle.refusals.specs.Answered.{Refused, Planned}
use Rattle.refusals.specs.Rules.{number_of, decide}
use Rattle.refusals.proofs.DecideLaws.{decide_refused, decide_passed}
use Rattle.plan.specs.Form.{plan_bytes}
use Rattle.rename.specs.Renamed.{Renamed}
use Rattle.rename.specs.Order.{walks, case_of, case_rules, early, late, order}
use Rattle.rename.specs.Job.{rows_by, plan_by, renamed, plan_after}
use Rattle.rename.specs.Answers.{RenameAnswers, refused_early}

pub answers_as : {s plan : List ℕ} {q : Request} {old new : List ℕ} {r t : Renamed} {after : List ℕ} → RenameAnswers s plan q old new r after → t ≡ r
    → RenameAnswers s plan q old new t after
answers_as a e = record { is = e ∙ a.is; buffer = a.buffer }

-- where new's walk is not refused, old's is not
pub walked_old : (v : View) (q : Request) (old new : List ℕ) → (walks_of v q old new).new.number ≡ 0 → (walks_of v q old new).old.number ≡ 0
unfolding walks_of
walked_old v q old new e = go (ℕ_discrete (walks_of v q old new).old.number 0)
  where
    n : ℕ
    n = (walks_of v q old new).old.number

    go : Dec ((walks_of v q old new).old.number ≡ 0) → (walks_of v q old new).old.number ≡ 0
    go (yes z) = z
    go (no some) = sym (ap (λ (b : Bool). (cond b (new_walk v q new) (halt (walks_of v q old new).old.number)).number) (ne_eqb _ 0 some)) ∙ e

module _ (s plan : List ℕ) (q : Request) (old new : List ℕ) where
  early_refused : (n : ℕ) → n ≢ 0 → decide (early s plan q old new) ≡ Refused n → RenameAnswers s plan q old new (refused_early n) plan
  unfolding renamed plan_after order
  early_refused n some e =
      let d : decide (early s plan q old new ++ late s plan q old new) ≡ Refused n =
      decide_refused (late s plan q old new) (early s plan q old new) (λ z. some (sym (ap number_of e) ∙ z)) ∙ ap (λ a. Refused (number_of a)) e in
      record { is = rw (d, e); buffer = rw d }

  -- the plan is too short
  pub answers_short : length plan < plan_bytes → RenameAnswers s plan q old new (refused_early short_buffer) plan
  answers_short l = early_refused short_buffer (λ z. omega arith) (rw (lt-ltb _ _ l))

  module _ (long : plan_bytes ≤ length plan) where
    pub answers_layout : layout_good s ≡ false → RenameAnswers s plan q old new (refused_early inconsistent) plan
    answers_layout bad = early_refused inconsistent (λ z. omega arith) (rw (le-ltb _ _ long, bad))

    module _ (h : Shape) (read : Read s h) where
      -- the journal record, and then the bodies
      pub answers_records : (n : ℕ) → n ≡ records_number h s → n ≢ 0 → RenameAnswers s plan q old new (refused_early n) plan
      unfolding records_number
      answers_records n is some = go (journal_clear h s) (bodies_good h s) refl refl
        where
          go : (a b : Bool) → journal_clear h s ≡ a → bodies_good h s ≡ b → RenameAnswers s plan q old new (refused_early n) plan
          go true true c d = absurd (some (is ∙ rw (c, d)))
          go true false c d = let e : n ≡ 201 = is ∙ rw (c, d) in early_refused n some (rw (le-ltb _ _ long, read.good, ← read.shape, c, d, e))
          go false b c d = let e : n ≡ 203 = is ∙ rw c in early_refused n some (rw (le-ltb _ _ long, read.good, ← read.shape, c, e))

      module _ (fine : records_number h s ≡ 0) where
        records_fine : (journal_clear h s ≡ true) × (bodies_good h s ≡ true)
        unfolding records_number
        records_fine = go (journal_clear h s) (bodies_good h s) refl refl
          where
            go : (a b : Bool) → journal_clear h s ≡ a → bodies_good h s ≡ b → (journal_clear h s ≡ true) × (bodies_good h s ≡ true)
            go true true c d = (c, d)
            go true false c d = let e : ◌≡◌ {A = ℕ} 201 0 = sym (rw (c, d)) ∙ fine in absurd (omega arith)
            go false b c d = let e : ◌≡◌ {A = ℕ} 203 0 = sym (rw c) ∙ fine in absurd (omega arith)

        -- the request
        pub answers_request : request_good (view_of h s) q old new ≡ false → RenameAnswers s plan q old new (refused_early wrong_request) plan
        answers_request bad =
            early_refused wrong_request (λ z. omega arith)
            (rw (le-ltb _ _ long, read.good, ← read.shape, records_fine.0, records_fine.1, bad))

        -- its flags
        pub answers_flags : request_good (view_of h s) q old new ≡ true → flags_good q ≡ false → RenameAnswers s plan q old new (refused_early EINVAL) plan
        answers_flags good bad =
            early_refused EINVAL (λ z. omega arith)
            (rw (le-ltb _ _ long, read.good, ← read.shape, records_fine.0, records_fine.1, good, bad))

        -- the walks begin
        module _ (good : request_good (view_of h s) q old new ≡ true) (flags : flags_good q ≡ true) where
          begins : decide (early s plan q old new) ≡ Planned
          begins = rw (le-ltb _ _ long, read.good, ← read.shape, records_fine.0, records_fine.1, good, flags)

          abbrev ends : Ends
          ends = walks_of (view_of h s) q old new

          same_ends : ends ≡ walks s plan q old new
          same_ends = ap (λ (x : Shape). walks_of (view_of x s) q old new) read.shape

          refused_same : ends.old.number ≢ 0 → ends.old.number ≡ ends.new.number
          unfolding walks_of
          refused_same n = sym (ap (λ (b : Bool). (cond b (new_walk (view_of h s) q new) (halt ends.old.number)).number) (ne_eqb ends.old.number 0 n))

          -- the answer that the late part gives
          abbrev answer_with : Answer → Renamed
          answer_with a = record { number = number_of a; rows = rows_by s plan q old new a; old = ends.old.steps; new = ends.new.steps }

          late_answered : (a : Answer) → decide (late s plan q old new) ≡ a → RenameAnswers s plan q old new (answer_with a) (plan_by s plan q old new a)
          unfolding renamed plan_after order
          late_answered a e =
              let d : decide (early s plan q old new ++ late s plan q old new) ≡ a = decide_passed (late s plan q old new) (early s plan q old new) refl (ap number_of begins) ∙ e in
              record { is = rw (d, begins, ← same_ends); buffer = rw d }

          -- a walk is refused
          pub answers_walk : ends.new.number ≢ 0
              → RenameAnswers s plan q old new (record { number = ends.new.number; rows = 0; old = ends.old.steps; new = ends.new.steps }) plan
          answers_walk some = late_answered (Refused ends.new.number) (go (ℕ_discrete ends.old.number 0))
            where
              go : Dec (ends.old.number ≡ 0) → decide (late s plan q old new) ≡ Refused ends.new.number
              go (yes z) = rw (← same_ends, eq-eqb ends.old.number 0 z, ne_eqb ends.new.number 0 some)
              go (no n) = rw (← same_ends, ne_eqb ends.old.number 0 n, refused_same n)

          -- both are whole: the case answers
          pub answers_case : ends.new.number ≡ 0 → (a : Answer) → a ≡ decide (case_rules (view_of h s) q (case_of (view_of h s) q ends))
              → RenameAnswers s plan q old new (answer_with a) (plan_by s plan q old new a)
          answers_case none a e =
              late_answered a (rw (← same_ends, eq-eqb ends.old.number 0 (walked_old (view_of h s) q old new none), eq-eqb ends.new.number 0 none, ← read.shape) (sym e))
