-- A planned call outlives whatever befalls it: its events are those of the crash theorem, which its plan and recovery obey. Assumes nothing.
use Rattle.std.specs.Prelude.{◌≡◌, ◌⊎◌, ◌↔◌, true, false, List, [], map, ℕ, ◌≤◌, T, length}
use Rattle.std.proofs.Common.{sym, ap, ◌∙◌}
use Rattle.std.proofs.Math.Path.{subst}
use Rattle.seq.specs.Truth.{to_t, of_t}
use Rattle.layout.specs.declared.Shape.{Shape}
use Rattle.consistency.specs.Consistent.{check_number}
use Rattle.plan.specs.Form.{plan_bytes, row_at}
use Rattle.plan.specs.Jobs.{Job}
use Rattle.apply.specs.Apply.{apply_number}
use Rattle.crash_theorem.specs.Pick.{All, Empty, Has}
use Rattle.crash_theorem.proofs.PickLaws.{empty_null}
use Rattle.crash_theorem.specs.Turn.{Turn}
use Rattle.crash_theorem.specs.Change.{Change}
use Rattle.crash_theorem.specs.Events as theory
use Rattle.crash_theorem.specs.Crash.{Safe}
use Rattle.crash_theorem.specs.Plan.{Plan}
use Rattle.recover.specs.Job.{recovered}
use Rattle.image_store.proofs.ImageLaws.{images}
use Rattle.image_store.specs.Buffers.{Buffers, enough}
use Rattle.image_store.proofs.BuffersLaws.{is_enough}
use Rattle.image_store.proofs.JobLaws.{jobs}
use Rattle.rename_survives.specs.PlanSurvives.{plan_jobs, plan_state, PlanSurvives}
use Rattle.demands.specs.Crashes.{Event, apply, crash, call, State, group_of, step, run, at_first, has_group}
use Rattle.demands.specs.Outlives.{Outlives}
use Rattle.demands.specs.Retold.{phase, state_of, event_of}
use Rattle.demands.proofs.RetoldLaws.{same_step, same_run, same_decision, places}

-- the plan p for the image s, of which `bytes` are put into the buffer, and which leaves t; the row that decides is of group g
module _ (h : Shape) (s : List ℕ) (p : Plan (images h s)) (buffer bytes t : List ℕ) (begins : p.before ≡ s)
    (survives : (es : List (theory.EventOf (jobs h s))) → PlanSurvives h s p buffer bytes t es)
    (g : ℕ) (group : (jobs h s).group (plan_jobs h s p buffer).decide ≡ g) where
  abbrev 𝓒 : Change (jobs h s)
  𝓒 = plan_jobs h s p buffer

  same_first : state_of (at_first s bytes) ≡ theory.start 𝓒
  same_first = λ i. record { img = sym begins i; waiting = sym (survives []).first i; phase = theory.own; applied = []; done = false }

  module _ (es : List Event) where
    abbrev x : State
    x = run (at_first s bytes) es

    -- as the theorem sees it
    abbrev y : theory.State (List ℕ) Job
    y = plan_state h s p buffer (map event_of es)

    same : state_of x ≡ y
    same = same_run h s p buffer (at_first s bytes) es ∙ ap (λ (z : theory.State (List ℕ) Job). theory.run 𝓒 z (map event_of es)) same_first

    abbrev told : PlanSurvives h s p buffer bytes t (map event_of es)
    told = survives (map event_of es)

    pub image_same : x.image ≡ y.img
    image_same = ap (λ (z : theory.State (List ℕ) Job). z.img) same

    pub done_same : x.done ≡ true → T y.done
    done_same d = to_t _ (sym (ap (λ (z : theory.State (List ℕ) Job). z.done) same) ∙ d)

    pub decision_same : theory.decided 𝓒 y ≡ has_group g x.applied
    decision_same = ap (λ (z : theory.State (List ℕ) Job). theory.decided 𝓒 z) (sym same) ∙ same_decision h s p buffer g group x.applied

    -- ---- buffers

    module _ (q c : List ℕ) (l : plan_bytes ≤ length q) (r : length x.image ≤ length c) where
      abbrev lent : Buffers
      lent = record { plan = q; scratch = c }

      suffices : T (enough lent y.img)
      suffices = subst (λ (z : List ℕ). T (enough lent z)) image_same (is_enough lent x.image l r)

      answers : (recovered q c x.image).number ≡ 0
      answers = ap (λ (z : List ℕ). (recovered q c z).number) image_same ∙ told.recovers lent suffices

      crashed : state_of (step x (crash q c)) ≡ theory.step 𝓒 y (theory.crash lent)
      crashed = same_step h s p buffer x (crash q c) ∙ ap (λ (z : theory.State (List ℕ) Job). theory.step 𝓒 z (theory.crash lent)) same

      finishes : (is : List ℕ) × ((run (step x (crash q c)) (map apply is)).done ≡ true)
      finishes =
          let (fs, a, d) = told.can_finish lent suffices in
          let (is, e) = places h s p buffer fs a in
          let same_end : state_of (run (step x (crash q c)) (map apply is)) ≡ theory.run 𝓒 (theory.step 𝓒 y (theory.crash lent)) fs =
          same_run h s p buffer (step x (crash q c)) (map apply is)
          ∙ ap (λ (z : theory.State (List ℕ) Job). theory.run 𝓒 z (map event_of (map apply is))) crashed
          ∙ ap (λ (gs : List (theory.EventOf (jobs h s))). theory.run 𝓒 (theory.step 𝓒 y (theory.crash lent)) gs) e in
          (is, ap (λ (z : theory.State (List ℕ) Job). z.done) same_end ∙ of_t _ d)

    -- ---- rows

    turns : Empty x.waiting ⊎ Turn group_of x.waiting
    unfolding row_at
    turns = subst (λ (z : theory.State (List ℕ) Job). Empty z.waiting ⊎ Turn (jobs h s).group z.waiting) (sym same) told.turn

    -- the deciding row by its place in the plan
    pub applied_is : (r : Job) → 𝓒.decide ≡ r → (has_group g x.applied ≡ true) ↔ Has x.applied r
    applied_is r is =
        let by : T (theory.decided 𝓒 y) ↔ Has x.applied 𝓒.decide =
        subst (λ (z : theory.State (List ℕ) Job). T (theory.decided 𝓒 y) ↔ Has z.applied 𝓒.decide) (sym same) told.decision in (
          λ e. subst (Has x.applied) is (by.0 (to_t _ (decision_same ∙ e))),
          λ k. sym decision_same ∙ of_t _ (by.1 (subst (Has x.applied) (sym is) k)),
        )

    pub outlives : Outlives s t (λ z. has_group g z.applied) x
    outlives = record {
      recovery_answers = answers;
      apply_takes = subst (λ (z : theory.State (List ℕ) Job). All (λ r. apply_number z.img r.plan r.number ≡ 0) z.waiting) (sym same) told.applies;
      apply_goes = turns;
      taken_back = λ d e. image_same ∙ told.undone (done_same d) (decision_same ∙ e) ∙ begins;
      finished = λ d e. image_same ∙ told.done (done_same d) (decision_same ∙ e);
      sound_again = λ d. ap check_number image_same ∙ told.checked (done_same d);
      can_finish = finishes;
    }

    -- ---- without a crash

    -- where the call's own rows have all been applied
    pub landed_whole : Safe 𝓒 y → 𝓒.after ≡ t → x.whose ≡ call → Empty x.waiting → x.image ≡ t
    landed_whole safe ends own none =
        let through : T (theory.through (phase x.whose) x.waiting) = rw own (empty_null x.waiting none) in
        image_same ∙ safe.whole (subst (λ (z : theory.State (List ℕ) Job). T (theory.through z.phase z.waiting)) same through) ∙ ends
