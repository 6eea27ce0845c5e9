-- Demand 3 is met for an exchange. Assumes nothing.
use Rattle.std.specs.Prelude.{◌≡◌, refl, ◌⊎◌, ◌↔◌, Bool, true, false, List, map, ℕ, ◌≤◌, length}
use Rattle.std.proofs.Common.{sym, ap, ◌∙◌, subst, inl, inr, ⊎_elim, eqb-true, ne_eqb}
use Rattle.layout.specs.declared.Shape.{Shape}
use Rattle.layout.specs.Contents.{shape_of}
use Rattle.layout.specs.View.{View, view_of}
use Rattle.paths.specs.declared.request.Request.{Request}
use Rattle.component.specs.Step.{existing}
use Rattle.refusals.specs.Answered.{Exchanged}
use Rattle.plan.specs.Form.{plan_bytes, journal_group}
use Rattle.recounts.specs.declared.Move.{Move}
use Rattle.crash_theorem.specs.Pick.{Has}
use Rattle.exchanges.specs.Exchange.{back}
use Rattle.rename.specs.Order.{slot_of, inode_of, walks}
use Rattle.rename.specs.Job.{answer, exchange}
use Rattle.exchange_outcome.specs.Outcome.{exchanged}
use Rattle.exchange_outcome.specs.ExchangePlan.{exchange_plan}
use Rattle.exchange_outcome.proofs.ExchangePlanLaws.{exchange_planned_lem}
use Rattle.exchange_outcome.specs.Paired.{Paired}
use Rattle.rename_survives.specs.PlanSurvives.{plan_jobs, plan_state}
use Rattle.exchange_survives.specs.Run.{SlotKept, ExchangeKept, EachNamed}
use Rattle.exchange_survives.proofs.Safe.{exchange_group, slots_kept, named_before, named_after}
use Rattle.demands.specs.Crashes.{Event, State, journal_applied}
use Rattle.demands.specs.Outlives.{Outlives}
use Rattle.demands.specs.Demand2.{finished_by, finished_image, the_plan, after}
use Rattle.demands.specs.Demand3.{before, now}
use Rattle.demands.specs.ExchangeDemand3.{GivenExchange, SlotStands, NamesStand, ExchangeDemand3}
use Rattle.demands.proofs.Called.{planned_flags}
use Rattle.demands.proofs.Exchanges.{found_old, found_new}
use Rattle.demands.specs.Retold.{event_of}
use Rattle.demands.proofs.OutlivesProof.{image_same, done_same, decision_same, applied_is, outlives}
use Rattle.demands.proofs.Planned.{exchange_move, exchange_room, exchange_bytes, exchange_outlasts}
use Rattle.demands.proofs.Demand3Proof.{planned_answer}

-- a slot as the crash theorem keeps it
slot_stands_lem : (h : Shape) (s x : List ℕ) (m : Move) → SlotKept h s x m → SlotStands (view_of h s) (view_of h x) m.new m.moved m.replaced
slot_stands_lem h s x m k = record { used = rw (ne_eqb _ 0 k.used.1); parent = k.parent; name = k.name; target = k.target }

-- either order of the two inodes
turned : {v w : View} {j i t : ℕ} → SlotStands v w j t i → SlotStands v w j i t
turned k = record { used = k.used; parent = k.parent; name = k.name; target = ⊎_elim inr inl k.target }

names_stand : (h : Shape) (s x : List ℕ) (m : Move) → ExchangeKept h s x m → NamesStand (view_of h s) (view_of h x) m.old m.moved m.new m.replaced
names_stand h s x m k = record {
  old_slot = turned (slot_stands_lem h s x (back m) k.old);
  new_slot = slot_stands_lem h s x m k.new;
  first = k.moved;
  second = k.replaced;
}

module _ {s plan : List ℕ} {q : Request} {old new : List ℕ} (given : GivenExchange s plan q old new) where
  abbrev h : Shape
  h = shape_of s

  abbrev m : Move
  m = exchange s plan q old new

  is_exchanged_lem : answer s plan q old new ≡ Exchanged
  is_exchanged_lem =
      ⊎_elim (λ e. absurd (planned_flags s plan q old new e (eqb-true _ _ given.asked))) (λ e. e) (planned_answer s plan q old new given.rows)

  abbrev c : Paired h s m
  c = exchange_move s plan q old new is_exchanged_lem given.time

  abbrev long : plan_bytes ≤ length plan
  long = exchange_room s plan q old new is_exchanged_lem given.time

  -- the finished image is an exchange's
  finished_is : exchanged h s m ≡ finished_image s plan q old new
  finished_is = sym (ap (finished_by s plan q old new) is_exchanged_lem)

  -- the parts of what a walk has found
  at_old : (d o i : ℕ) (slash : Bool) → (walks s plan q old new).old.found ≡ existing d o i slash → (m.old ≡ o) × (m.moved ≡ i)
  at_old d o i slash e = (ap (slot_of (before s plan q old new)) e, ap inode_of e)

  at_new : (d n t : ℕ) (slash : Bool) → (walks s plan q old new).new.found ≡ existing d n t slash → (m.new ≡ n) × (m.replaced ≡ t)
  at_new d n t slash e = (ap (slot_of (before s plan q old new)) e, ap inode_of e)

  -- a fact of the exchange's slots and inodes, said of those that the walks have found
  said : (P : ℕ → ℕ → ℕ → ℕ → Type 0) → P m.old m.moved m.new m.replaced → (d o i : ℕ) (slash : Bool)
      → (walks s plan q old new).old.found ≡ existing d o i slash → (e n t : ℕ) (also : Bool) → (walks s plan q old new).new.found ≡ existing e n t also → P o i n t
  said P k d o i slash f e n t also g =
      let (a, b) = at_old d o i slash f in
      let (u, w) = at_new e n t also g in
      subst (λ (z : ℕ). P o i n z) w (subst (λ (z : ℕ). P o i z m.replaced) u
      (subst (λ (z : ℕ). P o z m.new m.replaced) b (subst (λ (z : ℕ). P z m.moved m.new m.replaced) a k)))

  module _ (es : List Event) where
    abbrev x : State
    x = after s plan q old new es

    lasts : Outlives s (finished_image s plan q old new) journal_applied x
    lasts =
        subst (λ (t : List ℕ). Outlives s t journal_applied x) finished_is
        (outlives h s (exchange_plan h s m) plan (the_plan s plan q old new) (exchanged h s m) refl
        (exchange_outlasts s plan q old new is_exchanged_lem given.time) journal_group (exchange_group c plan long) es)

    decides_by : (plan_jobs h s (exchange_plan h s m) plan).decide ≡ record { plan = the_plan s plan q old new; number = 0 }
    decides_by = λ i. record { plan = (exchange_planned_lem h s m plan ∙ exchange_bytes s plan q old new is_exchanged_lem given.time) i; number = 0 }

    journal : (journal_applied x ≡ true) ↔ Has x.applied (record { plan = the_plan s plan q old new; number = 0 })
    journal =
        applied_is h s (exchange_plan h s m) plan (the_plan s plan q old new) (exchanged h s m) refl
        (exchange_outlasts s plan q old new is_exchanged_lem given.time) journal_group (exchange_group c plan long) es _ decides_by

    -- ---- names

    image : x.image ≡ (plan_state h s (exchange_plan h s m) plan (map event_of es)).img
    image =
        image_same h s (exchange_plan h s m) plan (the_plan s plan q old new) (exchanged h s m) refl
        (exchange_outlasts s plan q old new is_exchanged_lem given.time) journal_group (exchange_group c plan long) es

    kept : ExchangeKept h s x.image m
    kept = subst (λ (z : List ℕ). ExchangeKept h s z m) (sym image) (slots_kept c plan long (map event_of es))

    each : (journal_applied x ≡ false) ⊎ (x.done ≡ true) → EachNamed (view_of h x.image) m
    each k =
        let fact = exchange_outlasts s plan q old new is_exchanged_lem given.time in
        let group = exchange_group c plan long in
        subst (λ (z : List ℕ). EachNamed (view_of h z) m) (sym image)
        (⊎_elim (λ e. named_before c plan long (map event_of es)
        (decision_same h s (exchange_plan h s m) plan (the_plan s plan q old new) (exchanged h s m) refl fact journal_group group es ∙ e))
        (λ d. named_after c plan long (map event_of es)
        (done_same h s (exchange_plan h s m) plan (the_plan s plan q old new) (exchanged h s m) refl fact journal_group group es d)) k)

    abbrev w : View
    w = now s plan q old new es

  -- The claim.
  pub exchange_demand_3 : (es : List Event) → ExchangeDemand3 s plan q old new es
  exchange_demand_3 es = record {
    outlives = lasts es;
    journal_is = journal es;
    found = (_, _, _, _, _, _, _, _, found_old s plan q old new is_exchanged_lem, found_new s plan q old new is_exchanged_lem);
    names = said (λ o i n t. NamesStand (before s plan q old new) (w es) o i n t) (names_stand h s (x es).image m (kept es));
    each_named = λ d o i slash f e n t also g k.
        said (λ o i n t. (((w es).target o ≡ i) × ((w es).target n ≡ t)) ⊎ (((w es).target o ≡ t) × ((w es).target n ≡ i))) (each es k) d o i slash f e n t also g;
  }
