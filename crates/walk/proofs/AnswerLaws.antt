-- How a component ends a walk with an answer, and that all that is said of an answer holds of every walk. Assumes nothing.
use Rattle.std.specs.Prelude.{◌≡◌, refl, true, List, ℕ, ◌≤◌, Ok, Err}
use Rattle.std.proofs.Common.{sym, ap, subst, ◌∙◌}
use Rattle.seq.specs.Bytes.{no_zero}
use Rattle.layout.specs.Limits.{step_limit}
use Rattle.layout.specs.View.{View, is_symlink}
use Rattle.paths.specs.declared.request.Credentials.{Credentials}
use Rattle.component.specs.declared.state.Final.{Final}
use Rattle.component.specs.declared.state.Found.{Found}
use Rattle.layout.specs.declared.errno.Errno.{Errno}
use Rattle.layout.specs.Code.{code}
use Rattle.component.specs.declared.state.Leave.TheVariants.{Refuses, Finds}
use Rattle.component.specs.declared.state.Turn.{Turn}
use Rattle.component.specs.Step.{End, Step}
use Rattle.component.specs.State.{leave_of, Left, Turned}
use Rattle.walk.specs.declared.resolve.Walked.{Walked}
use Rattle.walk.specs.Walk.{halt, walk}
use Rattle.walk.proofs.BoundStart.{walk_bound}
use Rattle.walk.specs.Ends.{Facts}
use Rattle.walk.proofs.EndLaws.{walk_facts}
use Rattle.walk.specs.Answer.{answer_of, found_in, end_of, EndedBy, Ended, Closes, Answered}

-- the number of an end is the one that the answer is given out with
pub end_coded : (r : Walked Errno) → end_of r ≡ record { number = code r.found; steps = r.steps; found = found_in r.path r.found }
end_coded r = refl

-- a walk that is stopped by a number ends with that number
pub stopped_number : (r : Walked ℕ) (number : ℕ) → ((n : ℕ → ℕ) → EndedBy n r (halt (n number))) → EndedBy (λ k. k) r (halt number)
stopped_number r number stopped = stopped (λ k. k)

-- the same answer stands for an equal end
pub ended_as : (r : Walked Errno) (e f : End) → Ended r e → f ≡ e → Ended r f
ended_as r e f ended same = subst (λ (x : End). Ended r x) (sym same) ended

-- a component that refuses the walk, and one that finds what the path names
module _ (r : Turn Errno) (x : Step) (a : Walked Errno) (turned : Turned r x) where
  pub refused_closes : (why : Errno) → r.leave ≡ Refuses why → a ≡ answer_of r.walk (Err why) → Closes x a
  refused_closes why e is =
      subst (λ (y : Walked Errno). Closes x y) (sym is) (record { is = sym turned.is ∙ ap (λ y. leave_of r.walk y) e; range = tt })

  pub found_closes : (f : Found) → r.leave ≡ Finds f → a ≡ answer_of r.walk (Ok f) → Closes x a
  found_closes f e is =
      subst (λ (y : Walked Errno). Closes x y) (sym is)
      (record { is = sym turned.is ∙ ap (λ y. leave_of r.walk y) e; range = subst (λ y. Left r.walk y) e turned.left })

-- the bound and the facts hold of every walk on an image whose texts have no zero byte
pub walk_answered : (v : View) (who : Credentials) (last : Final) (current start : ℕ) (path : List ℕ) (r : Walked Errno)
    → ((i : ℕ) → is_symlink v i ≡ true → no_zero (v.text (v.field i)) ≡ true) → no_zero path ≡ true
    → Ended r (walk v who last current start path) → Answered v last r (walk v who last current start path)
walk_answered v who last current start path r texts plain e = record {
  is = e.is;
  range = e.range;
  bound = subst (λ (n : ℕ). n ≤ step_limit) (sym (ap (λ (x : End). x.steps) e.is)) (walk_bound v who last current start path);
  facts = subst (λ (x : End). Facts v last x) (sym e.is) (walk_facts v last texts who current start path plain);
}
