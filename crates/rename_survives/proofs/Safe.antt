-- The crash theorem for a rename, on bytes: its plan applied row by row, crashes anywhere, recovery's plans applied in turn. Assumes nothing.
use Rattle.std.specs.Prelude.{◌≡◌, refl, Bool, true, false, List, ℕ, ◌≤◌, ◌<◌, length}
use Rattle.std.proofs.Math.Path.{sym, ap}
use Rattle.std.proofs.Common.{◌∙◌, lit<}
use Rattle.std.proofs.Math.Logic.{inl, inr}
use Rattle.layout.specs.declared.Shape.{Shape}
use Rattle.layout.specs.Fields.{entry_parent, entry_target, entry_name}
use Rattle.layout.specs.View.{view_of, entry_at}
use Rattle.plan.specs.Form.{plan_rows, plan_bytes, entry_group}
use Rattle.plan.specs.Jobs.{Job}
use Rattle.plan.specs.Write.{entry_key}
use Rattle.recounts.specs.declared.Move.{Move}
use Rattle.crash_theorem.specs.Change.{Change, goal}
use Rattle.crash_theorem.specs.Events.{EventOf, State, decided}
use Rattle.crash_theorem.specs.Crash.{Safe}
use Rattle.crash_theorem.specs.Plan.{Plan, WellFormed, Recovers}
use Rattle.moves.specs.Plan.{new_entry, planned as plannedBytes}
use Rattle.recover.specs.Recover.{recover}
use Rattle.image_store.specs.Image.{record_of}
use Rattle.image_store.proofs.ImageLaws.{record_is, images}
use Rattle.image_store.proofs.JobLaws.{jobs}
use Rattle.image_store.specs.Recovery.{AnswersRows}
use Rattle.image_store.proofs.Operation.{rows_in}
use Rattle.image_store.proofs.Safe.{planned_decided}
use Rattle.outcome.specs.Outcome.{finished}
use Rattle.outcome.specs.RenamePlan.{rename_plan}
use Rattle.outcome.proofs.RenamePlanLaws.{rename_planned}
use Rattle.outcome.specs.Called.{Called}
use Rattle.outcome.proofs.CalledLaws.{in_image, new_entry_names}
use Rattle.outcome.proofs.Finished.{finished_after}
use Rattle.outcome.proofs.Applied.{rows_few}
use Rattle.outcome.proofs.Consistent.{before_consistent, finished_consistent}
use Rattle.outcome.proofs.PlanRows.{well_formed}
use Rattle.rename_survives.specs.Run.{recovery_job, NamesKept, rename_jobs, rename_state}
use Rattle.rename_survives.specs.PlanSurvives.{PlanSurvives}
use Rattle.rename_survives.proofs.Recovers.{recovers}
use Rattle.rename_survives.proofs.PlanSurvivesProof.{recovery_answers, plan_group, plan_safe, plan_entry}
use Rattle.rename_survives.proofs.PlanSurvivesWhole.{plan_survives}

module _ {h : Shape} {s : List ℕ} {m : Move} {called : List ℕ} (c : Called h s m called) (buffer : List ℕ) (long : plan_bytes ≤ length buffer) where
  abbrev p : Plan (images h s)
  p = rename_plan h s m called

  abbrev 𝓦 : WellFormed (images h s) p
  𝓦 = well_formed c

  abbrev few : length (rows_in h s p) ≤ plan_rows
  few = rows_few h s m called

  abbrev ρ : Recovers (images h s) p (recover h)
  ρ = recovers c

  abbrev 𝓐 : AnswersRows h s (recover h) recovery_job
  𝓐 = recovery_answers h s

  abbrev 𝓙 : Change (jobs h s)
  𝓙 = rename_jobs h s m called buffer

  abbrev state : List (EventOf (jobs h s)) → State (List ℕ) Job
  state es = rename_state h s m called buffer es

  -- the deciding one is the new entry's
  pub rename_group : (jobs h s).group 𝓙.decide ≡ entry_group
  rename_group = plan_group 𝓦 ρ few buffer long

  -- After every list of events the image is on the way, what waits can be applied, and once recovery's rows are through it is the image
  -- before or the one after, by whether the new entry was applied.
  pub rename_safe : (es : List (EventOf (jobs h s))) → Safe 𝓙 (state es)
  rename_safe = plan_safe 𝓦 ρ few buffer long

  -- what holds of every planned operation
  pub rename_lasts : (es : List (EventOf (jobs h s))) → PlanSurvives h s p buffer (plannedBytes h s m called buffer) (finished h s m called) es
  rename_lasts es =
      plan_survives 𝓦 ρ few buffer long (finished_after c) (before_consistent c) (finished_consistent c) (plannedBytes h s m called buffer)
      (rename_planned h s m called buffer) es

  -- the image after is the finished one
  pub rename_goal : goal 𝓙 true ≡ finished h s m called
  rename_goal = finished_after c

  -- ---- names are kept

  module _ (x : List ℕ) where
    slot : (j : ℕ) {b : List ℕ} → j < h.entries → record_of h x (entry_key j) ≡ b → entry_at h x j ≡ b
    slot j l e = sym (record_is h x (entry_key j) (record { in_image = lit< tt; in_section = l })) ∙ e

    kept_before : entry_at h x m.old ≡ entry_at h s m.old → entry_at h x m.new ≡ entry_at h s m.new → NamesKept h s x m
    unfolding view_of
    kept_before e f = record {
      name = (m.old, ((in_image c).old, rw e c.allowed.old_used.1), rw e c.allowed.old_target);
      parent = λ _. ap entry_parent f;
      called = λ _. ap entry_name f;
      target = λ _. inl (ap entry_target f);
    }

    kept_after : entry_at h x m.new ≡ new_entry h s m called → NamesKept h s x m
    unfolding view_of
    kept_after e =
        let n = new_entry_names c in
        let is-moved : entry_target (entry_at h x m.new) ≡ m.moved = ap entry_target e ∙ n.target in
        record {
          name = (m.new, ((in_image c).new, rw e (λ z. c.nonempty (sym n.name_length_lem ∙ z))), is-moved);
          parent = λ u. ap entry_parent e ∙ n.parent ∙ sym (c.allowed.new_parent u);
          called = λ u. ap entry_name e ∙ n.name ∙ sym (c.allowed.new_name_lem u);
          target = λ _. inr is-moved;
        }

  pub rename_kept : (es : List (EventOf (jobs h s))) → NamesKept h s (state es).img m
  rename_kept es = go (decided 𝓙 (state es)) refl
    where
      x : List ℕ
      x = (state es).img

      same : (j : ℕ) → j < h.entries → decided 𝓙 (state es) ≡ false → entry_at h x j ≡ entry_at h s j
      same j l e = plan_entry 𝓦 ρ few buffer long es refl e j l tt

      go : (d : Bool) → decided 𝓙 (state es) ≡ d → NamesKept h s x m
      go false e = kept_before x (same m.old (in_image c).old e) (same m.new (in_image c).new e)
      go true e = kept_after x (slot x m.new (in_image c).new
          (planned_decided h s p 𝓦 buffer long few (recover h) ρ recovery_job 𝓐 es tt e))
