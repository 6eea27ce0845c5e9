-- Demand 3 is met for a rename. Assumes nothing.
use Rattle.std.specs.Prelude.{◌≡◌, refl, ◌⊎◌, ◌↔◌, Bool, true, List, map, eqb, length}
use Rattle.std.proofs.Common.{sym, ◌∙◌, arith, eq-eqb, ne_eqb}
use Rattle.std.proofs.Math.Path.{ap, subst}
use Rattle.std.proofs.Math.Logic.{inl, inr, ⊎_elim}
use Prim.Native.Nat.{ℕ, ◌≤◌, ◌<◌}
use Rattle.std.proofs.lemmas.Bool.{eqb-false, not-true}
use Rattle.seq.specs.Truth.{not_both}
use Rattle.layout.specs.declared.Shape.{Shape}
use Rattle.layout.specs.Contents.{shape_of}
use Rattle.layout.specs.View.{entry_used}
use Rattle.edits.specs.Kinds.{EntryUsed}
use Rattle.paths.specs.declared.request.Request.{Request}
use Rattle.paths.specs.Flags.{exchange_flag}
use Rattle.component.specs.Step.{existing}
use Rattle.walk.specs.Ends.{Existing}
use Rattle.refusals.specs.Answered.{Answer}
use Rattle.refusals.specs.Answered.{Refused, Same, Planned, Exchanged}
use Rattle.plan.specs.Form.{plan_bytes, entry_group}
use Rattle.recounts.specs.declared.Move.{Move}
use Rattle.crash_theorem.specs.Pick.{Has}
use Rattle.moves.specs.Plan.{move_of}
use Rattle.rename.specs.Order.{walks, slot_of}
use Rattle.rename.specs.Job.{answer, move, called, rows_by, renamed}
use Rattle.outcome.specs.Outcome.{finished}
use Rattle.outcome.specs.RenamePlan.{rename_plan}
use Rattle.outcome.proofs.RenamePlanLaws.{rename_planned}
use Rattle.outcome.specs.Called.{Called}
use Rattle.rename_survives.specs.Run.{NamesKept}
use Rattle.rename_survives.specs.PlanSurvives.{plan_jobs}
use Rattle.rename_survives.proofs.Safe.{rename_group, rename_kept}
use Rattle.demands.specs.Crashes.{Event, State, entry_applied}
use Rattle.demands.specs.Outlives.{Outlives}
use Rattle.demands.specs.Demand2.{finished_by, finished_image, the_plan, after}
use Rattle.demands.specs.Demand3.{Demand3, GivenRename, before, moved, now}
use Rattle.demands.proofs.Called.{planned_new}
use Rattle.demands.proofs.Exchanges.{exchange_asked}
use Rattle.demands.specs.Retold.{event_of}
use Rattle.demands.proofs.OutlivesProof.{image_same, applied_is, outlives}
use Rattle.demands.proofs.Planned.{planned_move, planned_room, planned_bytes, planned_survives}

-- rows are planned only where the answer is so
pub planned_answer : (s plan : List ℕ) (q : Request) (old new : List ℕ) → 1 ≤ (renamed s plan q old new).rows
    → (answer s plan q old new ≡ Planned) ⊎ (answer s plan q old new ≡ Exchanged)
unfolding renamed
planned_answer s plan q old new rows = go (answer s plan q old new) refl rows
  where
    go : (a : Answer) → answer s plan q old new ≡ a → 1 ≤ rows_by s plan q old new a → (answer s plan q old new ≡ Planned) ⊎ (answer s plan q old new ≡ Exchanged)
    go (Refused n) e l = absurd (omega arith)
    go Same e l = absurd (omega arith)
    go Planned e l = inl e
    go Exchanged e l = inr e

module _ {s plan : List ℕ} {q : Request} {old new : List ℕ} (given : GivenRename s plan q old new) where
  abbrev h : Shape
  h = shape_of s

  abbrev m : Move
  m = move s plan q old new

  abbrev name : List ℕ
  name = called s plan q old new

  is_planned_lem : answer s plan q old new ≡ Planned
  is_planned_lem = ⊎_elim (λ e. e) (λ e. absurd (not_both (eqb q.flags exchange_flag) (eq-eqb _ _ (exchange_asked s plan q old new e)) given.asked))
      (planned_answer s plan q old new given.rows)

  abbrev c : Called h s m name
  c = planned_move s plan q old new is_planned_lem given.time

  abbrev long : plan_bytes ≤ length plan
  long = planned_room s plan q old new is_planned_lem given.time

  -- the finished image is a rename's
  finished_is : finished h s m name ≡ finished_image s plan q old new
  finished_is = sym (ap (finished_by s plan q old new) is_planned_lem)

  module _ (es : List Event) where
    abbrev x : State
    x = after s plan q old new es

    lasts : Outlives s (finished_image s plan q old new) entry_applied x
    lasts =
        subst (λ (t : List ℕ). Outlives s t entry_applied x) finished_is
        (outlives h s (rename_plan h s m name) plan (the_plan s plan q old new) (finished h s m name) refl
        (planned_survives s plan q old new is_planned_lem given.time) entry_group (rename_group c plan long) es)

    decides_by : (plan_jobs h s (rename_plan h s m name) plan).decide ≡ record { plan = the_plan s plan q old new; number = 1 }
    decides_by = λ i. record { plan = (rename_planned h s m name plan ∙ sym (planned_bytes s plan q old new is_planned_lem given.time)) i; number = 1 }

    entry : (entry_applied x ≡ true) ↔ Has x.applied (record { plan = the_plan s plan q old new; number = 1 })
    entry =
        applied_is h s (rename_plan h s m name) plan (the_plan s plan q old new) (finished h s m name) refl
        (planned_survives s plan q old new is_planned_lem given.time) entry_group (rename_group c plan long) es _ decides_by

    -- ---- names

    kept : NamesKept h s x.image m
    kept =
        subst (λ (z : List ℕ). NamesKept h s z m)
        (sym (image_same h s (rename_plan h s m name) plan (the_plan s plan q old new) (finished h s m name) refl
        (planned_survives s plan q old new is_planned_lem given.time) entry_group (rename_group c plan long) es))
        (rename_kept c plan long (map event_of es))

    named : (j : ℕ) × (j < (now s plan q old new es).entries) × (entry_used (now s plan q old new es) j ≡ true) × ((now s plan q old new es).target j ≡ moved s plan q old new)
    unfolding move_of
    named = let (j, (below, used), target) = kept.name in (j, below, rw (ne_eqb _ 0 used), target)

    module _ (d n t : ℕ) (slash : Bool) (e : (walks s plan q old new).new.found ≡ existing d n t slash) where
      slot : m.new ≡ n
      unfolding move_of
      slot = ap (slot_of (before s plan q old new)) e

      found : Existing (before s plan q old new) d n t slash
      found = planned_new s plan q old new is_planned_lem d n t slash e

      in_use : EntryUsed (before s plan q old new) m.new
      in_use = subst (EntryUsed (before s plan q old new)) (sym slot) (found.below, eqb-false _ _ (not-true _ found.used))

      slot_kept : ((now s plan q old new es).parent n ≡ (before s plan q old new).parent n) × ((now s plan q old new es).name n ≡ (before s plan q old new).name n)
          × (((now s plan q old new es).target n ≡ t) ⊎ ((now s plan q old new es).target n ≡ moved s plan q old new))
      unfolding move_of
      slot_kept =
          let at : (P : ℕ → Type 0) → P m.new → P n = λ P k. subst P slot k in (
            at (λ j. (now s plan q old new es).parent j ≡ (before s plan q old new).parent j) (kept.parent in_use),
            at (λ j. (now s plan q old new es).name j ≡ (before s plan q old new).name j) (kept.called in_use),
            ⊎_elim (λ k. inl (k ∙ found.target)) inr
                (at (λ j. ((now s plan q old new es).target j ≡ (before s plan q old new).target j) ⊎ ((now s plan q old new es).target j ≡ m.moved)) (kept.target in_use)),
          )

  -- The claim.
  pub demand_3 : (es : List Event) → Demand3 s plan q old new es
  demand_3 es = record { outlives = lasts es; entry_is = entry es; moved_named = named es; new_names = slot_kept es }
