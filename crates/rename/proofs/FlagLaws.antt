-- What the flags ask of a case: a law for each way out, and what is known of a case that is planned. Assumes nothing.
use Rattle.std.specs.Prelude.{◌≡◌, ◌≢◌, eqb}
use Rattle.std.proofs.Common.{sym, ap, ◌∙◌, arith, eq-eqb, ne_eqb}
use Rattle.std.proofs.Math.Bool.{and-false}
use Rattle.std.proofs.lemmas.Bool.{false≢true}
use Rattle.std.proofs.Math.Decide.{ℕ_discrete}
use Rattle.layout.specs.Limits.{absent}
use Rattle.layout.specs.Errno.{ENOENT, EEXIST}
use Rattle.layout.specs.View.{View}
use Rattle.paths.specs.declared.request.Request.{Request}
use Rattle.paths.specs.Flags.{no_replace_flag, exchange_flag}
use Rattle.refusals.specs.Answered.{Refused, Planned, Exchanged}
use Rattle.refusals.specs.declared.case.Case.{Case}
use Rattle.refusals.specs.Rules.{decide}
use Rattle.rename_steps.specs.Steps.{steps}
use Rattle.exchange_steps.specs.Exchange.{exchange_steps}
use Rattle.refusals.specs.Passes.{is_planned, is_exchanged}
use Rattle.exchange_steps.specs.ExchangePassedLaws.{exchange_unplanned}
use Rattle.rename_steps.proofs.PassedLaws.{steps_unexchanged}
use Rattle.rename.specs.Order.{case_rules}
use Rattle.rename.specs.Flagged.{Flagged, refused, renames, exchanges}

module _ (v : View) (q : Request) (c : Case) where
  module _ (asked : q.flags ≡ exchange_flag) where
    other : q.flags ≢ no_replace_flag
    other e = omega arith

    pub exchange_missing : c.replaced ≡ absent → decide (case_rules v q c) ≡ Refused ENOENT
    exchange_missing none = rw (ne_eqb _ _ other, eq-eqb _ _ asked, eq-eqb c.replaced absent none)

    pub exchange_there : c.replaced ≢ absent → decide (case_rules v q c) ≡ decide (exchange_steps v c)
    exchange_there some = rw (ne_eqb _ _ other, eq-eqb _ _ asked, ne_eqb c.replaced absent some)

  module _ (not-asked : q.flags ≢ exchange_flag) where
    pub kept_there : q.flags ≡ no_replace_flag → c.replaced ≢ absent → decide (case_rules v q c) ≡ Refused EEXIST
    kept_there e some = rw (eq-eqb _ _ e, ne_eqb c.replaced absent some)

    pub rename_missing : c.replaced ≡ absent → decide (case_rules v q c) ≡ decide (steps v c)
    rename_missing none = rw (eq-eqb c.replaced absent none, and-false (eqb q.flags no_replace_flag), ne_eqb _ _ not-asked)

    pub rename_free : q.flags ≢ no_replace_flag → decide (case_rules v q c) ≡ decide (steps v c)
    rename_free n = rw (ne_eqb _ _ n, ne_eqb _ _ not-asked)

  pub flagged : Flagged v q c
  flagged = go (ℕ_discrete q.flags exchange_flag) (ℕ_discrete c.replaced absent) (ℕ_discrete q.flags no_replace_flag)
    where
      go : Dec (q.flags ≡ exchange_flag) → Dec (c.replaced ≡ absent) → Dec (q.flags ≡ no_replace_flag) → Flagged v q c
      go (yes e) (yes none) z = refused ENOENT (exchange_missing e none)
      go (yes e) (no some) z = exchanges e some (exchange_there e some)
      go (no n) (yes none) z = renames n (λ _. none) (rename_missing n none)
      go (no n) (no some) (yes k) = refused EEXIST (kept_there n k some)
      go (no n) (no some) (no k) = renames n (λ e. absurd (k e)) (rename_free n k)

  -- what is planned as a rename has passed the steps of one
  pub planned_steps : decide (case_rules v q c) ≡ Planned → decide (steps v c) ≡ Planned
  planned_steps e = go flagged
    where
      go : Flagged v q c → decide (steps v c) ≡ Planned
      go (refused n r) = absurd (false≢true (ap is_planned (sym r ∙ e)))
      go (renames n k r) = sym r ∙ e
      go (exchanges a b r) = absurd (exchange_unplanned v c (sym r ∙ e))

  pub planned_unasked : decide (case_rules v q c) ≡ Planned → q.flags ≢ exchange_flag
  planned_unasked e = go flagged
    where
      go : Flagged v q c → q.flags ≢ exchange_flag
      go (refused n r) = absurd (false≢true (ap is_planned (sym r ∙ e)))
      go (renames n k r) = n
      go (exchanges a b r) = absurd (exchange_unplanned v c (sym r ∙ e))

  -- and what is planned as an exchange those of one, on a name that exists
  pub exchanged_steps : decide (case_rules v q c) ≡ Exchanged → (decide (exchange_steps v c) ≡ Exchanged) × (c.replaced ≢ absent) × (q.flags ≡ exchange_flag)
  exchanged_steps e = go flagged
    where
      go : Flagged v q c → (decide (exchange_steps v c) ≡ Exchanged) × (c.replaced ≢ absent) × (q.flags ≡ exchange_flag)
      go (refused n r) = absurd (false≢true (ap is_exchanged (sym r ∙ e)))
      go (renames n k r) = absurd (steps_unexchanged v c (sym r ∙ e))
      go (exchanges a b r) = (sym r ∙ e, b, a)
