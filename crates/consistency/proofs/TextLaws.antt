-- Laws of a consistent text, as the code asks for it: one for each way out. Assumes nothing.
use Rattle.std.specs.Prelude.{◌≡◌, Bool, true, false, not, List, ℕ, ◌+◌, ◌-◌, ◌≤◌, ◌<◌}
use Rattle.std.proofs.Math.Path.{sym}
use Rattle.std.proofs.Common.{◌∙◌, eq-eqb, ne_eqb, le-leb}
use Rattle.std.proofs.Math.Bool.{and-false}
use Rattle.std.proofs.lemmas.Bool.{lt-leb}
use Rattle.seq.specs.Bytes.{zeros, no_zero}
use Rattle.seq.specs.Truth.{fails, holds}
use Rattle.layout.specs.declared.Shape.{Shape}
use Rattle.layout.specs.Limits.{text_room}
use Rattle.layout.specs.Facts.{Reads}
use Rattle.layout.proofs.RecordLaws.{field_of}
use Rattle.layout.specs.Fields.{text_length, text_bytes}
use Rattle.layout.specs.View.{view_of, text_at}
use Rattle.consistency.specs.Others.{text_padded, text_bytes_good, text_owned, text_good}
use Rattle.consistency.specs.Sound.{text_linked}

-- r and n are text t and its length as they were read
module _ (h : Shape) (s : List ℕ) (t : ℕ) {r : List ℕ} {m n : ℕ} (reads : Reads r (text_at h s t) m) (says : n ≡ text_length r) where
  length_is : n ≡ text_length (text_at h s t)
  length_is = field_of text_length reads says

  padding_is : zeros r (1 + n) (text_room - n) ≡ text_padded h s t
  unfolding view_of
  padding_is = rw (reads.is, length_is)

  bytes_are : no_zero (text_bytes r) ≡ text_bytes_good (view_of h s) t
  unfolding view_of
  bytes_are = rw reads.is

  pub text_long : text_room < n → false ≡ text_good h s t
  unfolding text_good view_of
  text_long l = simp (lt-leb _ _ (rw length_is at l))

  pub text_unpadded : {b : Bool} → b ≡ zeros r (1 + n) (text_room - n) → not b ≡ true → false ≡ text_good h s t
  unfolding text_good
  text_unpadded e f = simp (and-false, fails (e ∙ padding_is) f)

  pub text_zero : {b : Bool} → b ≡ no_zero (text_bytes r) → not b ≡ true → false ≡ text_good h s t
  unfolding text_good
  text_zero e f = simp (and-false, fails (e ∙ bytes_are) f)

  -- past these three only the symlink that has the text is left to ask for
  module _ (short : n ≤ text_room) {b d : Bool} (padded : b ≡ zeros r (1 + n) (text_room - n)) (passed : not b ≡ false) (clean : d ≡ no_zero (text_bytes r))
      (passes : not d ≡ false) where
    formed : text_good h s t ≡ text_owned (view_of h s) t
    unfolding text_good view_of
    formed = simp (le-leb _ _ (rw length_is at short), holds (padded ∙ padding_is) passed, holds (clean ∙ bytes_are) passes)

    pub text_free_lem : n ≡ 0 → true ≡ text_good h s t
    unfolding view_of
    text_free_lem z = sym (formed ∙ simp (eq-eqb _ _ (sym length_is ∙ z)))

    pub text_linked_lem : (n ≡ 0 → ⊥) → {l : Bool} → l ≡ text_linked (view_of h s) t → l ≡ text_good h s t
    unfolding view_of
    text_linked_lem z e = e ∙ sym (formed ∙ simp (ne_eqb _ _ (λ o. z (length_is ∙ o))))
