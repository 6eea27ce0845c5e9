-- A rename that the job plans is one whose rows are well formed: from the job's own answer to all that its outcome rests on. Assumes nothing.
use Rattle.std.specs.Prelude.{◌≡◌, ◌≢◌, Bool, List, ℕ, ◌≤◌, ◌<◌}
use Rattle.std.proofs.Math.Path.{refl, subst}
use Rattle.std.proofs.Common.{sym, ap, ◌∙◌, arith, eq-eqb, ne_eqb}
use Rattle.std.proofs.Math.Bool.{true, cond}
use Rattle.std.proofs.Math.Decide.{ℕ_discrete}
use Rattle.std.proofs.Math.ListN.{length}
use Rattle.seq.specs.Number.{span}
use Rattle.seq.proofs.BytesLaws.{part_length}
use Rattle.layout.specs.declared.Shape.{Shape}
use Rattle.layout.specs.Limits.{absent}
use Rattle.layout.specs.Facts.{Read}
use Rattle.layout.specs.Contents.{shape_of}
use Rattle.layout.proofs.RecordLaws.{record_length}
use Rattle.layout.specs.View.{View, view_of, entry_at, name_room}
use Rattle.names.specs.NameTests.{name_good}
use Rattle.consistency.specs.RecordFacts.{Bodies}
use Rattle.edits.specs.Kinds.{EntryUsed}
use Rattle.edits.proofs.Bodies.{bodies_consistent, bodies_formed}
use Rattle.paths.specs.declared.request.Request.{Request}
use Rattle.paths.specs.Flags.{exchange_flag}
use Rattle.component.specs.Step.{existing}
use Rattle.walk.specs.Ends.{Existing, Known}
use Rattle.walk.specs.Both.{new_final}
use Rattle.refusals.specs.Answered.{Planned}
use Rattle.refusals.specs.declared.case.Case.{Case}
use Rattle.refusals.specs.Case.{exists}
use Rattle.refusals.specs.Rules.{decide}
use Rattle.refusals.specs.Passes.{is_planned}
use Rattle.rename_steps.specs.Passed.{Passed}
use Rattle.rename_steps.proofs.PassedLaws.{planned_passed}
use Rattle.plan.specs.Form.{plan_bytes}
use Rattle.moves.specs.Plan.{move_of}
use Rattle.rename.specs.Order.{walks, early}
use Rattle.rename.proofs.FlagLaws.{planned_steps, planned_unasked}
use Rattle.rename.specs.Job.{answer, case, move, called}
use Rattle.outcome.specs.Called.{Called}
use Rattle.outcome.proofs.CalledLaws.{move_text}
use Rattle.demands.specs.Allowed.{new_name, Granted}
use Rattle.demands.specs.AllowedLaws.{granted}
use Rattle.demands.proofs.Reached.{begun, old_whole, new_whole, by_case}
use Rattle.demands.proofs.Begun.{long, begun_read, clear, bodies, old_facts, new_facts}

module _ (s plan : List ℕ) (q : Request) (old new : List ℕ) (planned : answer s plan q old new ≡ Planned) where
  abbrev h : Shape
  h = shape_of s

  abbrev v : View
  v = view_of h s

  abbrev c : Case
  c = case s plan q old new

  abbrev is : is_planned (answer s plan q old new) ≡ true
  is = ap is_planned planned

  -- nothing was refused before the walks
  abbrev start : decide (early s plan q old new) ≡ Planned
  start = begun s plan q old new is_planned refl is

  pub steps_passed : Passed v c
  steps_passed = planned_passed v c (planned_steps v q c (sym (by_case s plan q old new is_planned refl is) ∙ planned))

  -- what is planned as a rename was not asked to exchange
  pub planned_flags : q.flags ≢ exchange_flag
  planned_flags = planned_unasked v q c (sym (by_case s plan q old new is_planned refl is) ∙ planned)

  abbrev image : Bodies h s
  image = bodies s plan q old new start

  abbrev layout : Read s h
  layout = begun_read s plan q old new start

  pub grant : Granted v c (called s plan q old new)
  unfolding view_of
  grant = granted v (bodies_consistent image) layout.laid.inodes_most q (walks s plan q old new) (old_facts s plan q old new start) (new_facts s plan q old new start) (old_whole s plan q old new is_planned refl is) (new_whole s plan q old new is_planned refl is) steps_passed

  -- ---- the name of the new entry is a good one

  abbrev name : List ℕ
  name = new_name v c (called s plan q old new)

  record Good (n : List ℕ) : Type 0 where
    some : length n ≢ 0
    short : length n ≤ name_room h
    good : name_good n ≡ true

  -- of an entry in use
  entry_good_lem : (j : ℕ) → EntryUsed v j → Good (v.name j)
  unfolding view_of
  entry_good_lem j u =
      let form = (bodies_formed image).entry j u.0 u.1 in
      let long : length (entry_at h s j) ≡ h.width = record_length h s 1 j layout.laid.long (omega arith) u.0 in
      let l = part_length (entry_at h s j) 8 (v.name_length j) (omega (arith, form.short, layout.laid.width_least)) in
      record { some = λ z. u.1 (sym l ∙ z); short = rw l form.short; good = form.name }

  name_good_lem : Good name
  unfolding view_of
  name_good_lem = go (ℕ_discrete c.replaced absent)
    where
      go : Dec (c.replaced ≡ absent) → Good name
      go (yes none) =
          let (is, m) = grant.missing none in
          subst Good is (record { some = λ z. omega (arith, m.some); short = m.short; good = m.good })
      go (no n) =
          let u : exists c ≡ true = rw (ne_eqb c.replaced absent n) in
          subst Good (sym (ap (λ (b : Bool). cond b (v.name c.new) (called s plan q old new)) u))
          (entry_good_lem c.new (grant.allowed.new_below, used n))
        where
          used : c.replaced ≢ absent → v.name_length c.new ≢ 0
          used n z = n (grant.replaced ∙ rw (eq-eqb (v.name_length c.new) 0 z))

  -- The buffer holds a plan.
  pub planned_long : plan_bytes ≤ length plan
  planned_long = long s plan q old new start

  -- Where new's walk found an entry, it is there.
  pub planned_new : (d n t : ℕ) (slash : Bool) → (walks s plan q old new).new.found ≡ existing d n t slash → Existing v d n t slash
  planned_new d n t slash e = subst (Known v new_final) e (new_facts s plan q old new start).known

  -- All that the outcome of the rename rests on.
  pub planned_called : q.now < span 8 → Called h s (move s plan q old new) (called s plan q old new)
  unfolding move_of
  planned_called time = record {
    read = layout;
    bodies = image;
    clear = clear s plan q old new start;
    name = name;
    missing = λ none. (grant.missing none).0;
    nonempty = name_good_lem.some;
    short = name_good_lem.short;
    good = name_good_lem.good;
    allowed = grant.allowed;
    replaced = grant.replaced;
    text = move_text v c q.now;
    time = time;
  }
