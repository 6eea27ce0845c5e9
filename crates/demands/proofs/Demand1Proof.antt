-- Demand 1 is met. Assumes nothing.
use Rattle.std.specs.Prelude.{◌≡◌, Bool, false, ◌||◌, cond, ℕ, eqb, ltb, length}
use Rattle.std.proofs.Math.Path.{refl}
use Rattle.std.proofs.Math.Bool.{true}
use mathlib.Core.List.{List, [], ◌++◌}
use Rattle.std.proofs.Math.Option.{Option, none, some}
use Rattle.std.proofs.Math.Decide.{ℕ_discrete}
use Rattle.std.proofs.Common.{eqb-true}
use Rattle.seq.specs.Truth.{by_test}
use Rattle.layout.specs.Errno.{inconsistent, journal_pending, short_buffer, bad_row}
use Rattle.layout.specs.Contents.{layout_good, shape_of}
use Rattle.consistency.specs.Sound.{journal_clear, bodies_good}
use Rattle.consistency.specs.Consistent.{consistent, records_number, check_number}
use Rattle.paths.specs.declared.request.Request.{Request}
use Rattle.paths.specs.Flags.{asks_exchange}
use Rattle.component.specs.Ways.{component_number}
use Rattle.walk.specs.Walk.{halt_number}
use Rattle.walk.specs.Ends.{walk_number}
use Rattle.refusals.specs.Answered.{Planned}
use Rattle.refusals.specs.Rules.{Rule, number_of, decide}
use Rattle.rename_steps.specs.Steps.{steps}
use Rattle.exchange_steps.specs.Exchange.{exchange_steps}
use Rattle.refusals.specs.Decide.{numbers}
use Rattle.refusals.proofs.DecideLaws.{decide_number, decide_refused, decide_passed}
use Rattle.plan.specs.Form.{plan_bytes}
use Rattle.plan.specs.Fit.{applicable}
use Rattle.plan.specs.Write.{Write}
use Rattle.apply.specs.Apply.{apply_number}
use Rattle.rename.specs.Order.{view, early, late, order}
use Rattle.rename.specs.Job.{case, renamed}
use Rattle.recover.specs.Recover.{pending_rows}
use Rattle.recover.specs.Job.{refused, done, by_rows, recovered}
use Rattle.demands.specs.Demand1.{Demand1, among, check_numbers, land_numbers, rename_numbers, repair_numbers}
use Rattle.demands.proofs.Begun.{old_facts, new_facts}

pub check_listed : (s : List ℕ) → among check_numbers (check_number s) ≡ true
unfolding check_number records_number
check_listed s = go (layout_good s) (journal_clear (shape_of s) s) (bodies_good (shape_of s) s)
  where
    go : (a b c : Bool) → among check_numbers (cond a (cond b (cond c 0 inconsistent) journal_pending) inconsistent) ≡ true
    go true true true = refl
    go true true false = refl
    go true false c = refl
    go false b c = refl

pub land_listed : (image plan : List ℕ) (row : ℕ) → among land_numbers (apply_number image plan row) ≡ true
unfolding apply_number
land_listed image plan row = go (ltb (length plan) plan_bytes) (layout_good image) (applicable (shape_of image) plan row)
  where
    go : (a b c : Bool) → among land_numbers (cond a short_buffer (cond b (cond c 0 bad_row) inconsistent)) ≡ true
    go true b c = refl
    go false true true = refl
    go false true false = refl
    go false false c = refl

pub repair_listed : (plan scratch image : List ℕ) → among repair_numbers (recovered plan scratch image).number ≡ true
unfolding recovered
repair_listed plan scratch image =
    let h = shape_of image in
    go (ltb (length plan) plan_bytes || ltb (length scratch) (length image)) (layout_good image) (journal_clear h image) (consistent image) (pending_rows h image)
  where
    go : (a b c d : Bool) (o : Option (List Write))
        → among repair_numbers (cond a (refused plan scratch image short_buffer) (cond b
        (cond c (cond d (done plan scratch image (shape_of image) []) (refused plan scratch image inconsistent)) (by_rows plan scratch image (shape_of image) o))
        (refused plan scratch image inconsistent))).number ≡ true
    go true b c d o = refl
    go false false c d o = refl
    go false true true true o = refl
    go false true true false o = refl
    go false true false d none = refl
    go false true false d (some ws) = refl

-- a walk's number is one of rename's
split : {A : Type 0} (a b : Bool) → (a ≡ true → A) → (b ≡ true → A) → (a || b) ≡ true → A
split true b f g e = f refl
split false b f g e = g e

walk_listed : (n : ℕ) → walk_number n ≡ true → among rename_numbers n ≡ true
walk_listed n e =
    split (eqb n 0 || halt_number n) (component_number n)
    (split (eqb n 0) (halt_number n) (is 0 refl)
    (split (eqb n 2 || eqb n 36 || eqb n 9) (eqb n 16) (split (eqb n 2 || eqb n 36) (eqb n 9) (split (eqb n 2) (eqb n 36) (is 2 refl) (is 36 refl)) (is 9 refl)) (is 16 refl)))
    (split (eqb n 1 || eqb n 2 || eqb n 13 || eqb n 20 || eqb n 22 || eqb n 36) (eqb n 40)
    (split (eqb n 1 || eqb n 2 || eqb n 13 || eqb n 20 || eqb n 22) (eqb n 36)
    (split (eqb n 1 || eqb n 2 || eqb n 13 || eqb n 20) (eqb n 22)
    (split (eqb n 1 || eqb n 2 || eqb n 13) (eqb n 20)
    (split (eqb n 1 || eqb n 2) (eqb n 13) (split (eqb n 1) (eqb n 2) (is 1 refl) (is 2 refl)) (is 13 refl)) (is 20 refl)) (is 22 refl)) (is 36 refl)) (is 40 refl)) e
  where
    is : (k : ℕ) → among rename_numbers k ≡ true → eqb n k ≡ true → among rename_numbers n ≡ true
    is k here f = rw (eqb-true n k f) here

module _ (s plan : List ℕ) (q : Request) (old new : List ℕ) where
  late_listed : decide (early s plan q old new) ≡ Planned → among rename_numbers (number_of (decide (late s plan q old new))) ≡ true
  late_listed begun =
      decide_number (among rename_numbers) (late s plan q old new) refl
      (rw (walk_listed _ (old_facts s plan q old new begun).listed, walk_listed _ (new_facts s plan q old new begun).listed)
      (by_test (λ (rs : List Rule). numbers (among rename_numbers) rs ≡ true) (asks_exchange q) (exchange_steps (view s plan q old new) (case s plan q old new))
      (steps (view s plan q old new) (case s plan q old new)) (λ _. refl) (λ _. refl)))

  pub rename_listed : among rename_numbers (renamed s plan q old new).number ≡ true
  unfolding renamed order
  rename_listed = go (ℕ_discrete (number_of (decide (early s plan q old new))) 0)
    where
      go : Dec (number_of (decide (early s plan q old new)) ≡ 0) → among rename_numbers (number_of (decide (early s plan q old new ++ late s plan q old new))) ≡ true
      go (yes z) =
          rw (decide_passed (late s plan q old new) (early s plan q old new) refl z)
          (late_listed (decide_passed [] (early s plan q old new) refl z))
      go (no n) =
          rw (decide_refused (late s plan q old new) (early s plan q old new) n)
          (decide_number (among rename_numbers) (early s plan q old new) refl refl)

pub demand_1 : Demand1
demand_1 = record { check = check_listed; land = land_listed; rename = rename_listed; repair = repair_listed }
