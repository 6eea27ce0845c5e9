-- Where an answer comes from behind a list of rules, none of their tests holds. Assumes nothing.
use Rattle.std.specs.Prelude.{◌≡◌, refl, Bool, true, false, not, cond, List, [], ◌∷◌, ◌++◌}
use Rattle.std.proofs.Common.{sym, ap, ◌∙◌, append-nil}
use Rattle.std.proofs.lemmas.Bool.{false≢true, not-true}
use Rattle.seq.specs.Truth.{and_left, and_right}
use Rattle.refusals.specs.Answered.{Answer}
use Rattle.refusals.specs.Answered.{Planned}
use Rattle.refusals.specs.Rules.{Rule, decide}
use Rattle.refusals.specs.Decide.{answers}
use Rattle.refusals.specs.Passes.{Passes, is_planned, deciding_rules}

-- an answer that no rule of xs gives comes from behind them, and then none of their tests holds
module _ (p : Answer → Bool) (ys : List Rule) where
  pub passes_before : (xs : List Rule) → answers (λ a. not (p a)) xs ≡ true → p (decide (xs ++ ys)) ≡ true → Passes xs
  passes_before [] each e = tt
  passes_before (r ∷ rs) each e = go (passes_before rs (and_right (not (p r.answer)) _ each)) r.test e
    where
      go : (p (decide (rs ++ ys)) ≡ true → Passes rs) → (b : Bool) → p (cond b r.answer (decide (rs ++ ys))) ≡ true → (b ≡ false) × Passes rs
      go rest true e = absurd (false≢true (sym (not-true (p r.answer) (and_left _ (answers (λ a. not (p a)) rs) each)) ∙ e))
      go rest false e = (refl, rest e)

pub passes : (rs : List Rule) → deciding_rules rs ≡ true → decide rs ≡ Planned → Passes rs
passes rs each e = passes_before is_planned [] rs each (rw (append-nil rs) (ap is_planned e))
