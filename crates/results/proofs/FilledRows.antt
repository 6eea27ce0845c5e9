-- The results as rows of a plan's bytes: each part put from a place on where it is asked for, and all of them in order. Assumes nothing.
use Rattle.std.specs.Prelude.{◌≡◌, refl, ◌≢◌, Bool, true, false, not, List, ℕ, ◌+◌, eqb}
use Rattle.std.proofs.Common.{eq-eqb, ne_eqb}
use Rattle.seq.specs.Truth.{not_both}
use Rattle.layout.specs.declared.Shape.{Shape}
use Rattle.layout.specs.Limits.{absent}
use Rattle.plan.specs.Form.{row_stored}
use Rattle.plan.specs.Write.{Write, row_from}
use Rattle.plan.specs.Filled.{Filled}
use Rattle.plan.proofs.WriteLaws.{filled_none, filled_one, filled_join}
use Rattle.recounts.specs.declared.Move.{Move}
use Rattle.results.specs.Results.{present, when, holder_row, replaced_row, text_row, always_rows, into_rows, replaced_rows, text_rows, results}

-- a row where it is asked for
module _ (h : Shape) (w : Write) {p : List ℕ} {i : ℕ} where
  pub when_one : (b : Bool) {q : List ℕ} → b ≡ true → q ≡ row_stored p i (row_from h w) → Filled h p i (when b w) q (i + 1)
  when_one true e f = filled_one h w f
  when_one false e f = absurd (not_both false e refl)

  pub when_none : (b : Bool) → b ≡ false → Filled h p i (when b w) p i
  when_none true e = absurd (not_both true refl e)
  when_none false e = filled_none h p i

module _ (h : Shape) (s : List ℕ) (m : Move) where
  -- each part put into a plan
  module _ {p q : List ℕ} {i : ℕ} where
    pub into_one : m.into ≢ m.from → q ≡ row_stored p i (row_from h (holder_row h s m m.into)) → Filled h p i (into_rows h s m) q (i + 1)
    into_one n e = when_one h _ (not (eqb m.into m.from)) (rw (ne_eqb _ _ n)) e

    pub replaced_one : m.replaced ≢ absent → q ≡ row_stored p i (row_from h (replaced_row h s m)) → Filled h p i (replaced_rows h s m) q (i + 1)
    replaced_one n e = when_one h _ (present m.replaced) (rw (ne_eqb _ _ n)) e

    pub text_one : m.text ≢ absent → q ≡ row_stored p i (row_from h (text_row h s m)) → Filled h p i (text_rows h s m) q (i + 1)
    text_one n e = when_one h _ (present m.text) (rw (ne_eqb _ _ n)) e

  module _ {p : List ℕ} {i : ℕ} where
    pub into_none : m.into ≡ m.from → Filled h p i (into_rows h s m) p i
    into_none e = when_none h _ (not (eqb m.into m.from)) (rw (eq-eqb _ _ e))

    pub replaced_none : m.replaced ≡ absent → Filled h p i (replaced_rows h s m) p i
    replaced_none e = when_none h _ (present m.replaced) (rw (eq-eqb _ _ e))

    pub text_none : m.text ≡ absent → Filled h p i (text_rows h s m) p i
    text_none e = when_none h _ (present m.text) (rw (eq-eqb _ _ e))

  -- all of them
  pub results_filled : {p q r t u : List ℕ} {i j k l n : ℕ} → Filled h p i (always_rows h s m) q j → Filled h q j (into_rows h s m) r k
      → Filled h r k (replaced_rows h s m) t l → Filled h t l (text_rows h s m) u n → Filled h p i (results h s m) u n
  unfolding results
  results_filled a b c d = filled_join h (filled_join h (filled_join h a b) c) d
