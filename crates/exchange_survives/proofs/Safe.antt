-- The crash theorem for an exchange, on bytes: its plan applied row by row, crashes anywhere, recovery's plans applied in turn. Assumes nothing.
use Rattle.std.specs.Prelude.{◌≡◌, refl, Bool, true, false, List, ℕ, ◌≤◌, ◌<◌, T, length}
use Rattle.std.proofs.Common.{sym, subst, inl, inr}
use Rattle.layout.specs.declared.Shape.{Shape}
use Rattle.layout.specs.View.{view_of, entry_at}
use Rattle.plan.specs.Form.{plan_rows, plan_bytes, journal_group}
use Rattle.plan.specs.Jobs.{Job}
use Rattle.recounts.specs.declared.Move.{Move}
use Rattle.exchanges.specs.Exchange.{exchange_planned}
use Rattle.crash_theorem.specs.Change.{Change, goal}
use Rattle.crash_theorem.specs.Events.{EventOf, State, decided}
use Rattle.crash_theorem.specs.Crash.{Safe}
use Rattle.crash_theorem.specs.Plan.{Plan, WellFormed, Recovers}
use Rattle.recover.specs.Recover.{recover}
use Rattle.image_store.proofs.ImageLaws.{images}
use Rattle.image_store.proofs.JobLaws.{jobs}
use Rattle.image_store.proofs.Operation.{rows_in}
use Rattle.exchange_outcome.specs.Outcome.{exchanged}
use Rattle.exchange_outcome.specs.ExchangePlan.{exchange_plan}
use Rattle.exchange_outcome.proofs.ExchangePlanLaws.{exchange_planned_lem}
use Rattle.exchange_outcome.specs.Paired.{Paired}
use Rattle.exchange_outcome.proofs.PairedLaws.{in_image, turned}
use Rattle.exchange_outcome.proofs.SlotLaws.{slot_before, slot_after}
use Rattle.exchange_outcome.proofs.PlanRows.{well_formed}
use Rattle.exchange_outcome.proofs.Applied.{rows_few}
use Rattle.exchange_outcome.proofs.Finished.{exchanged_after, old_written, new_written}
use Rattle.exchange_outcome.proofs.Consistent.{before_consistent, exchange_consistent}
use Rattle.rename_survives.specs.PlanSurvives.{PlanSurvives}
use Rattle.rename_survives.proofs.PlanSurvivesProof.{plan_group, plan_safe, plan_mixed, plan_entry}
use Rattle.rename_survives.proofs.PlanSurvivesWhole.{plan_survives}
use Rattle.exchange_survives.specs.Run.{exchange_jobs, exchange_state, ExchangeKept, EachNamed}
use Rattle.exchange_survives.proofs.Slots.{exchange_kept}
use Rattle.exchange_survives.proofs.Recovers.{recovers}

module _ {h : Shape} {s : List ℕ} {m : Move} (c : Paired h s m) (buffer : List ℕ) (long : plan_bytes ≤ length buffer) where
  abbrev p : Plan (images h s)
  p = exchange_plan h s m

  abbrev 𝓦 : WellFormed (images h s) p
  𝓦 = well_formed c

  abbrev few : length (rows_in h s p) ≤ plan_rows
  few = rows_few h s m

  abbrev ρ : Recovers (images h s) p (recover h)
  ρ = recovers c

  abbrev 𝓙 : Change (jobs h s)
  𝓙 = exchange_jobs h s m buffer

  abbrev state : List (EventOf (jobs h s)) → State (List ℕ) Job
  state es = exchange_state h s m buffer es

  -- the deciding one is the journal record's
  pub exchange_group : (jobs h s).group 𝓙.decide ≡ journal_group
  exchange_group = plan_group 𝓦 ρ few buffer long

  -- the image after is the finished one
  pub exchange_goal : goal 𝓙 true ≡ exchanged h s m
  exchange_goal = exchanged_after c

  module _ (es : List (EventOf (jobs h s))) where
    -- After every list of events the image is on the way, what waits can be applied, and once recovery's rows are through it is the image
    -- before or the one after, by whether the journal record was applied.
    pub exchange_safe : Safe 𝓙 (state es)
    exchange_safe = plan_safe 𝓦 ρ few buffer long es

    pub exchange_lasts : PlanSurvives h s p buffer (exchange_planned h s m buffer) (exchanged h s m) es
    exchange_lasts =
        plan_survives 𝓦 ρ few buffer long (exchanged_after c) (before_consistent c) (exchange_consistent c) (exchange_planned h s m buffer)
        (exchange_planned_lem h s m buffer) es

    -- ---- names are kept

    pub slots_kept : ExchangeKept h s (state es).img m
    slots_kept = exchange_kept c (plan_mixed 𝓦 ρ few buffer long es refl (exchanged_after c))

    -- each inode has one of the names until the journal record is applied,
    pub named_before : decided 𝓙 (state es) ≡ false → EachNamed (view_of h (state es).img) m
    named_before e = inl ((slot_before (turned c) _ (same m.old (in_image c).slots.old)).target, (slot_before c _ (same m.new (in_image c).slots.new)).target)
      where
        same : (j : ℕ) → j < h.entries → entry_at h (state es).img j ≡ entry_at h s j
        same j l = plan_entry 𝓦 ρ few buffer long es refl e j l tt

    -- and once a recovery is through
    pub named_after : T (state es).done → EachNamed (view_of h (state es).img) m
    named_after d = go (decided 𝓙 (state es)) refl
      where
        finished : EachNamed (view_of h (exchanged h s m)) m
        finished = inr ((slot_after (turned c) _ (old_written c)).target, (slot_after c _ (new_written c)).target)

        go : (b : Bool) → decided 𝓙 (state es) ≡ b → EachNamed (view_of h (state es).img) m
        go false e = named_before e
        go true e = subst (λ (y : List ℕ). EachNamed (view_of h y) m) (sym (exchange_lasts.done d e)) finished
