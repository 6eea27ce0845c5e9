-- Demand 2 is met. Assumes nothing.
use Rattle.std.specs.Prelude.{◌≡◌, refl, ◌≢◌, true, false, List, [], ◌∷◌, map, ℕ, ◌<◌}
use Rattle.std.proofs.Common.{sym, ◌∙◌, arith, le-ltb, eq-eqb}
use Rattle.std.proofs.Math.Path.{ap}
use Rattle.std.proofs.lemmas.Bool.{false≢true, eqb-false}
use Rattle.std.proofs.Math.Decide.{ℕ_discrete}
use Rattle.layout.specs.declared.Shape.{Shape}
use Rattle.layout.specs.Limits.{absent}
use Rattle.layout.specs.Contents.{shape_of}
use Rattle.layout.specs.View.{View, view_of}
use Rattle.consistency.specs.Consistent.{check_number}
use Rattle.consistency.proofs.ConsistentLaws.{checked_consistent}
use Rattle.consistency.proofs.SoundFacts.{is_bodies}
use Rattle.consistency.specs.Facts.{Consistent}
use Rattle.consistency.proofs.FactLaws.{consistent_is}
use Rattle.edits.proofs.Bodies.{bodies_consistent}
use Rattle.paths.specs.declared.request.Request.{Request}
use Rattle.paths.specs.Request.{request_good}
use Rattle.paths.specs.Flags.{exchange_flag, asks_no_replace, flags_good}
use Rattle.refusals.specs.Answered.{Answer}
use Rattle.refusals.specs.Answered.{Refused, Same, Planned, Exchanged}
use Rattle.refusals.specs.declared.case.Case.{Case}
use Rattle.refusals.specs.Rules.{number_of, decide}
use Rattle.rename_steps.proofs.StepsLaws.{steps_same}
use Rattle.exchange_steps.specs.ExchangeLaws.{exchange_same}
use Rattle.plan.specs.Form.{journal_group, entry_group}
use Rattle.plan.specs.Jobs.{jobs_in, Job}
use Rattle.apply.specs.Apply.{applied_image}
use Rattle.crash_theorem.specs.Pick.{Empty}
use Rattle.crash_theorem.specs.Store.{put_all}
use Rattle.rename.specs.Order.{walks, inode_of, case_rules, early, order}
use Rattle.rename.specs.Job.{answer, case, rows_by, plan_by, renamed, plan_after}
use Rattle.rename.proofs.FlagLaws.{exchange_there, rename_free}
use Rattle.rename.proofs.Known.{old_found}
use Rattle.image_store.proofs.JobLaws.{jobs}
use Rattle.outcome.proofs.Applied.{applied_in_order}
use Rattle.outcome.proofs.Consistent.{finished_checked}
use Rattle.exchange_outcome.proofs.Applied.{applied_in_order as exchanged-in-order}
use Rattle.exchange_outcome.proofs.Consistent.{exchange_checked}
use Rattle.rename_survives.proofs.Safe.{rename_group, rename_safe, rename_goal}
use Rattle.exchange_survives.proofs.Safe.{exchange_group, exchange_safe, exchange_goal}
use Rattle.demands.specs.Crashes.{Event, call, applied_all}
use Rattle.demands.specs.Demand2.{Demand2, Given, plans, refusals, finished_by, the_plan, after}
use Rattle.demands.specs.AllowedLaws.{used_entry}
use Rattle.demands.proofs.Begun.{begun_read, old_facts}
use Rattle.demands.specs.Retold.{event_of}
use Rattle.demands.proofs.OutlivesProof.{landed_whole}
use Rattle.demands.proofs.Planned.{planned_move, planned_bytes, planned_survives, exchange_move, exchange_bytes, exchange_outlasts}

module _ (s plan : List ℕ) (q : Request) (old new : List ℕ) where
  module _ (given : Given s plan q) where
    image : Consistent s
    image = consistent_is s (checked_consistent s given.sound)

    -- nothing ahead of the request is refused
    shortened : decide (order s plan q old new) ≡ decide (refusals s plan q old new)
    unfolding order
    shortened = rw (le-ltb _ _ given.room, image.layout, image.journal, is_bodies (shape_of s) s image.bodies)

    -- ---- the plan landed whole

    -- rows applied one after another are the store's
    applied_same : (h : Shape) (t : List ℕ) (js : List Job) → applied_all t js ≡ put_all (jobs h s) t js
    applied_same h t [] = refl
    applied_same h t (j ∷ js) = applied_same h (applied_image t j.plan j.number) js

    -- of a rename, and of an exchange
    whole : (a : Answer) → answer s plan q old new ≡ a → plans a ≡ true → (es : List Event) → (after s plan q old new es).whose ≡ call
        → Empty (after s plan q old new es).waiting → (after s plan q old new es).image ≡ finished_by s plan q old new a
    whole (Refused n) e p es own none = absurd (false≢true p)
    whole Same e p es own none = absurd (false≢true p)
    whole Planned e p es own none =
        let c = planned_move s plan q old new e given.time in
        landed_whole (shape_of s) s _ plan (the_plan s plan q old new) _ refl (planned_survives s plan q old new e given.time) entry_group
        (rename_group c plan given.room) es (rename_safe c plan given.room (map event_of es)) (rename_goal c plan given.room) own none
    whole Exchanged e p es own none =
        let c = exchange_move s plan q old new e given.time in
        landed_whole (shape_of s) s _ plan (the_plan s plan q old new) _ refl (exchange_outlasts s plan q old new e given.time) journal_group
        (exchange_group c plan given.room) es (exchange_safe c plan given.room (map event_of es)) (exchange_goal c plan given.room) own none

    in_order : (a : Answer) → answer s plan q old new ≡ a → plans a ≡ true → applied_all s (jobs_in (the_plan s plan q old new)) ≡ finished_by s plan q old new a
    in_order (Refused n) e p = absurd (false≢true p)
    in_order Same e p = absurd (false≢true p)
    in_order Planned e p =
        applied_same (shape_of s) s (jobs_in (the_plan s plan q old new))
        ∙ ap (λ (b : List ℕ). put_all (jobs (shape_of s) s) s (jobs_in b)) (planned_bytes s plan q old new e given.time)
        ∙ applied_in_order (planned_move s plan q old new e given.time) plan given.room
    in_order Exchanged e p =
        applied_same (shape_of s) s (jobs_in (the_plan s plan q old new))
        ∙ ap (λ (b : List ℕ). put_all (jobs (shape_of s) s) s (jobs_in b)) (sym (exchange_bytes s plan q old new e given.time))
        ∙ exchanged-in-order (exchange_move s plan q old new e given.time) plan given.room

    checked : (a : Answer) → answer s plan q old new ≡ a → plans a ≡ true → check_number (finished_by s plan q old new a) ≡ 0
    checked (Refused n) e p = absurd (false≢true p)
    checked Same e p = absurd (false≢true p)
    checked Planned e p = finished_checked (planned_move s plan q old new e given.time)
    checked Exchanged e p = exchange_checked (exchange_move s plan q old new e given.time)

    -- ---- two names of one file

    abbrev c : Case
    c = case s plan q old new

    abbrev v : View
    v = view_of (shape_of s) s

    begun : request_good v q old new ≡ true → flags_good q ≡ true → decide (early s plan q old new) ≡ Planned
    begun good flags = rw (le-ltb _ _ given.room, image.layout, image.journal, is_bodies (shape_of s) s image.bodies, good, flags)

    -- old's walk has found an inode
    moved_there : request_good v q old new ≡ true → flags_good q ≡ true → (walks s plan q old new).old.number ≡ 0 → c.moved ≢ absent
    unfolding view_of
    moved_there good flags first z =
        let e = begun good flags in
        let f = old_facts s plan q old new e in
        let x = old_found v (walks s plan q old new).old.found _ f.known f.numbered first in
        let below : c.moved < (shape_of s).inodes =
        rw x.target at ((bodies_consistent image.bodies).placed.entry c.old (used_entry v c.old x.below x.used)).target.0 in
        omega (arith, (begun_read s plan q old new e).laid.inodes_most)

    -- the steps of a rename and of an exchange begin alike
    one_case : asks_no_replace q ≡ false → c.moved ≢ absent → c.moved ≡ c.replaced → decide (case_rules v q c) ≡ Same
    one_case free there one = go (ℕ_discrete q.flags exchange_flag)
      where
        go : Dec (q.flags ≡ exchange_flag) → decide (case_rules v q c) ≡ Same
        go (yes e) = exchange_there v q c e (λ z. there (one ∙ z)) ∙ exchange_same v c one
        go (no n) = rename_free v q c n (eqb-false _ _ free) ∙ steps_same v c one

    same_answer : request_good (view_of (shape_of s) s) q old new ≡ true → flags_good q ≡ true → asks_no_replace q ≡ false
        → (walks s plan q old new).old.number ≡ 0 → (walks s plan q old new).new.number ≡ 0
        → inode_of (walks s plan q old new).old.found ≡ inode_of (walks s plan q old new).new.found → answer s plan q old new ≡ Same
    same_answer good flags free first second one =
        shortened ∙ rw (good, flags, eq-eqb (walks s plan q old new).old.number 0 first, eq-eqb (walks s plan q old new).new.number 0 second)
        (one_case free (moved_there good flags first) one)

    pub demand_2 : Demand2 s plan q old new
    unfolding renamed plan_after
    demand_2 = record {
      first_refusal = ap number_of shortened;
      untouched = λ n e. ap (λ (a : Answer). plan_by s plan q old new a) e;
      landed = whole (answer s plan q old new) refl;
      landed_in_order = in_order (answer s plan q old new) refl;
      sound_again = checked (answer s plan q old new) refl;
      one_file = λ good flags free first second one.
          let e = same_answer good flags free first second one in
          (ap number_of e, ap (λ (a : Answer). rows_by s plan q old new a) e, ap (λ (a : Answer). plan_by s plan q old new a) e);
    }
