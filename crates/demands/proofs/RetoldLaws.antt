-- The events of a call are those of the crash theorem, told in the jobs' own definitions. Assumes nothing.
use Rattle.std.specs.Prelude.{◌≡◌, Bool, true, false, ◌||◌, ℕ, zero, suc}
use Rattle.std.proofs.Math.Path.{refl, ap}
use Rattle.std.proofs.Common.{◌∙◌}
use mathlib.Core.List.{List, [], ◌∷◌, map}
use Rattle.std.proofs.Math.Option.{Option, none, some}
use Rattle.std.proofs.Math.Dec.{eqb}
use Rattle.layout.specs.declared.Shape.{Shape}
use Rattle.plan.specs.Form.{row_at}
use Rattle.plan.specs.Jobs.{Job}
use Rattle.apply.specs.Apply.{apply_number}
use Rattle.crash_theorem.specs.Pick.{All, Picked, pick}
use Rattle.crash_theorem.specs.Turn.{lowest}
use Rattle.crash_theorem.specs.Change.{Change}
use Rattle.crash_theorem.specs.Finish.{OnlyApplies}
use Rattle.crash_theorem.specs.Events as theory
use Rattle.crash_theorem.specs.Plan.{Plan}
use Rattle.recover.specs.Job.{recovered}
use Rattle.image_store.proofs.ImageLaws.{images}
use Rattle.image_store.proofs.JobLaws.{jobs}
use Rattle.image_store.specs.Recovery.{waiting_at}
use Rattle.rename_survives.specs.PlanSurvives.{plan_jobs}
use Rattle.demands.specs.Crashes.{Event, apply, refused, crash, Whose, call, recovery, nobody, State, group_of, taken, at_place, tried, answered, step, run, has_group}
use Rattle.demands.specs.Retold.{state_of, event_of}

module _ (h : Shape) (s : List ℕ) (p : Plan (images h s)) (buffer : List ℕ) where
  abbrev 𝓒 : Change (jobs h s)
  𝓒 = plan_jobs h s p buffer

  -- ---- one event

  same_taken : (b : Bool) (x : State) (r : Job) (rest : List Job) → state_of (taken b x r rest) ≡ theory.turned 𝓒 b (state_of x) r rest
  same_taken false x r rest = refl
  same_taken true x r rest = go x.whose refl
    where
      go : (w : Whose) → x.whose ≡ w → state_of (taken true x r rest) ≡ theory.turned 𝓒 true (state_of x) r rest
      go call e = rw e
      go recovery e = rw e
      go nobody e = rw e

  same_place : (x : State) (o : Option (Picked x.waiting)) → state_of (at_place x o) ≡ theory.turn 𝓒 (state_of x) o
  unfolding row_at
  same_place x none = refl
  same_place x (some p) = same_taken (lowest group_of (group_of p.0) p.1) x p.0 p.1

  same_tried : (b : Bool) (x : State) (plan : List ℕ) (n : ℕ) → state_of (tried b x plan n) ≡ theory.tried 𝓒 b (state_of x) (record { plan = plan; number = n })
  same_tried true x plan n = refl
  same_tried false x plan n = refl

  same_answered : (x : State) (n : ℕ) (plan : List ℕ) → state_of (answered x n plan) ≡ theory.answered 𝓒 (state_of x) (waiting_at n plan)
  same_answered x zero plan = refl
  same_answered x (suc n) plan = refl

  pub same_step : (x : State) (e : Event) → state_of (step x e) ≡ theory.step 𝓒 (state_of x) (event_of e)
  same_step x (apply i) = same_place x (pick i x.waiting)
  same_step x (refused plan n) = same_tried (eqb (apply_number x.image plan n) 0) x plan n
  same_step x (crash plan scratch) = same_answered x (recovered plan scratch x.image).number (recovered plan scratch x.image).plan

  -- ---- a list of them

  pub same_run : (x : State) (es : List Event) → state_of (run x es) ≡ theory.run 𝓒 (state_of x) (map event_of es)
  same_run x [] = refl
  same_run x (e ∷ es) = same_run (step x e) es ∙ ap (λ (y : theory.State (List ℕ) Job). theory.run 𝓒 y (map event_of es)) (same_step x e)

  -- ---- the decision, by the group of the row that decides

  pub same_decision : (g : ℕ) → (jobs h s).group 𝓒.decide ≡ g → (rs : List Job) → theory.decides 𝓒 rs ≡ has_group g rs
  unfolding row_at
  same_decision g e [] = refl
  same_decision g e (r ∷ rs) =
      ap (λ (k : ℕ). eqb (group_of r) k || theory.decides 𝓒 rs) e ∙ ap (λ (b : Bool). eqb (group_of r) g || b) (same_decision g e rs)

  -- ---- events that only apply rows are places

  pub places : (es : List (theory.EventOf (jobs h s))) → All OnlyApplies es → (is : List ℕ) × (map event_of (map apply is) ≡ es)
  places [] a = ([], refl)
  places (theory.apply i ∷ es) a = let (is, e) = places es a.1 in (i ∷ is, ap (λ (fs : List (theory.EventOf (jobs h s))). theory.apply i ∷ fs) e)
  places (theory.stray r ∷ es) a = absurd a.0
  places (theory.crash b ∷ es) a = absurd a.0
