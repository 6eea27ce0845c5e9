-- The ways out of both walks: old's is refused, or both are walked. Assumes nothing.
use Rattle.std.specs.Prelude.{◌≡◌, ◌≢◌, List, ℕ}
use Rattle.std.proofs.Math.Path.{sym, ap, subst}
use Rattle.std.proofs.Common.{◌∙◌, zero-le, eq-eqb, ne_eqb}
use Rattle.layout.specs.View.{View}
use Rattle.paths.specs.declared.request.Request.{Request}
use Rattle.component.specs.Step.{End}
use Rattle.walk.specs.declared.resolve.Walked.{Walked}
use Rattle.layout.specs.declared.errno.Errno.{Errno}
use Rattle.layout.specs.Code.{code}
use Rattle.walk.specs.Walk.{halt}
use Rattle.walk.specs.Ends.{Facts}
use Rattle.walk.specs.Both.{old_final, new_final, old_walk, new_walk, new_after, walks_of}
use Rattle.walk.specs.Answer.{Ended, Answered, BothAnswered}

module _ (v : View) (q : Request) (old new : List ℕ) (first second : Walked Errno) (walked : Answered v old_final first (old_walk v q old)) where
  pub both_refused : code first.found ≢ 0 → Ended second (halt (code first.found)) → BothAnswered v (record { old = first; new = second }) (walks_of v q old new)
  unfolding walks_of
  both_refused some e =
      let n : code first.found ≡ (old_walk v q old).number = ap (λ (x : End). x.number) walked.is in
      let h : halt (code first.found) ≡ new_after v q (old_walk v q old).number new =
      subst (λ (m : ℕ). halt (code first.found) ≡ new_after v q m new) n (rw (ne_eqb _ 0 some)) in
      record {
        old = walked;
        new = record {
          is = e.is ∙ h;
          range = e.range;
          bound = rw (ap (λ (x : End). x.steps) e.is) zero-le;
          facts = subst (λ (x : End). Facts v new_final x) (sym e.is) (record { known = tt; numbered = some; listed = walked.facts.listed });
        };
      }

  pub both_walked : code first.found ≡ 0 → Answered v new_final second (new_walk v q new) → BothAnswered v (record { old = first; new = second }) (walks_of v q old new)
  unfolding walks_of
  both_walked none w =
      let n : (old_walk v q old).number ≡ 0 = sym (ap (λ (x : End). x.number) walked.is) ∙ none in
      record { old = walked; new = rw (eq-eqb _ 0 n) w }
