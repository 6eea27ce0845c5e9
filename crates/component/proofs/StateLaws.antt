-- What the state of a walk says of its position: where it begins, and what a component leaves of it. Assumes nothing.
use Rattle.std.specs.Prelude.{◌≡◌, refl, Bool, false, List, ℕ, ◌-◌, ◌≤◌, length}
use Rattle.std.proofs.Common.{sym, ap, ◌∙◌, subst, arith}
use Rattle.seq.proofs.BytesLaws.{part_length}
use Rattle.layout.specs.Limits.{path_limit}
use Rattle.layout.specs.declared.errno.Errno.{Errno}
use Rattle.paths.specs.Path.{bare}
use Rattle.paths.proofs.WorkingPathLaws.{filled_length, filled_part}
use Rattle.component.specs.declared.state.Name.{Name}
use Rattle.component.specs.declared.state.Name.TheVariants.{Missing}
use Rattle.component.specs.declared.state.Leave.TheVariants.{Goes}
use Rattle.component.specs.declared.state.Turn.{Turn}
use Rattle.component.specs.declared.state.Walk.{Walk}
use Rattle.component.specs.Step.{Position, Step, goes, refused_by}
use Rattle.component.specs.State.{rest_from, position_of, leave_of, step_by, NameRanged, Fit, Left, TurnedBy, Turned, beginning}

-- where a walk begins
module _ (path : List ℕ) (directory : ℕ) (waived : Bool) where
  pub begins_at : position_of (beginning path directory waived) ≡ record { rest = path; directory = directory; links = 0; steps = 0; waived = waived }
  begins_at = rw (filled_part path (length path) refl)

  pub begins_fit : length path ≤ path_limit → bare path ≡ false → Fit (beginning path directory waived)
  begins_fit short more =
      record { within = omega arith; short = short; whole = filled_length path (omega arith); more = rw (filled_part path (length path) refl) more }

-- a refusal stands for the number of its reason, however reasons are numbered
module _ {R : Type 0} (r : Turn R) (why : R) (w : Position) (refused : ((n : R → ℕ) → step_by n r ≡ refused_by (n why) w) × Left r.walk r.leave) where
  pub refused_turned : (n : R → ℕ) → TurnedBy n r (refused_by (n why) w)
  refused_turned n = record { is = refused.0 n; left = refused.1 }

-- what is refused by a number stands for that number
pub refused_number : (r : Turn ℕ) (number : ℕ) (w : Position)
    → ((n : ℕ → ℕ) → step_by n r ≡ refused_by (n number) w) × Left r.walk r.leave → TurnedBy (λ k. k) r (refused_by number w)
refused_number r number w refused = refused_turned r number w refused (λ k. k)

-- what an answer says where the walk goes on, and what it has left to read
pub turned_goes : (r : Turn Errno) (x : Step) → Turned r x → r.leave ≡ Goes → x ≡ goes (position_of r.walk)
turned_goes r x turned e = sym turned.is ∙ ap (λ y. leave_of r.walk y) e

pub turned_fit : (r : Turn Errno) (x : Step) → Turned r x → r.leave ≡ Goes → Fit r.walk
turned_fit r x turned e = subst (λ y. Left r.walk y) e turned.left

pub fit_short : (w : Walk) → Fit w → length (rest_from w w.at) ≤ path_limit
fit_short w fit = let l = part_length w.path w.at (w.len - w.at) (omega (arith, fit.within, fit.short, fit.whole)) in omega (arith, fit.short)

-- a missing name is a range of the working path
pub missing_range : (path : List ℕ) (n : Name) (a e : ℕ) → NameRanged path n → n ≡ Missing a e → (a ≤ e) × (e ≤ length path)
missing_range path n a e ranged is = subst (λ (x : Name). NameRanged path x) is ranged
