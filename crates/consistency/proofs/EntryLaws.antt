-- Laws of a consistent entry, as the code asks for it: one for each way out. Assumes nothing.
use Rattle.std.specs.Prelude.{◌≡◌, ◌≢◌, Bool, true, false, List, ℕ}
use Rattle.std.proofs.Math.Path.{sym, ap}
use Rattle.std.proofs.Common.{◌∙◌, eq-eqb, ne_eqb}
use Rattle.std.proofs.Math.Bool.{and-false}
use Rattle.seq.specs.Bytes.{zeros}
use Rattle.layout.specs.declared.Shape.{Shape}
use Rattle.layout.specs.Facts.{Reads}
use Rattle.layout.specs.Fields.{entry_name_length, entry_name}
use Rattle.layout.proofs.RecordLaws.{field_of}
use Rattle.layout.specs.View.{view_of, entry_at}
use Rattle.names.specs.Name.{is_dots}
use Rattle.names.specs.NameTests.{name_spelled}
use Rattle.consistency.specs.Entry.{entry_formed, entry_spelled, entry_linked, used_good, entry_good}

-- r and n are entry j and its name's length as they were read
module _ (h : Shape) (s : List ℕ) (j : ℕ) {r : List ℕ} {n : ℕ} (reads : Reads r (entry_at h s j) h.width) (says : n ≡ entry_name_length r) where
  length_is : n ≡ entry_name_length (entry_at h s j)
  length_is = field_of entry_name_length reads says

  spelled_is : name_spelled r n ≡ entry_spelled h s j
  unfolding name_spelled entry_spelled view_of
  spelled_is = rw (reads.long, reads.is, length_is)

  dots_are : is_dots (entry_name r) ≡ is_dots ((view_of h s).name j)
  unfolding view_of
  dots_are = ap (λ x. is_dots (entry_name x)) reads.is

  pub entry_free : n ≡ 0 → {b : Bool} → b ≡ zeros r 0 h.width → b ≡ entry_good h s j
  unfolding entry_good view_of
  entry_free z e = e ∙ ap (λ x. zeros x 0 h.width) reads.is ∙ simp (eq-eqb _ _ (sym length_is ∙ z))

  -- an entry in use
  module _ (used : n ≢ 0) where
    asked : entry_good h s j ≡ used_good h s j
    unfolding entry_good view_of
    asked = simp (ne_eqb _ _ (λ z. used (length_is ∙ z)))

    pub entry_unformed : entry_formed h s j ≡ false → false ≡ entry_good h s j
    unfolding used_good
    entry_unformed e = sym (asked ∙ rw e)

    pub entry_misspelled : name_spelled r n ≡ false → false ≡ entry_good h s j
    unfolding used_good
    entry_misspelled e = sym (asked ∙ simp (and-false, sym spelled_is ∙ e))

    pub entry_dots : is_dots (entry_name r) ≡ true → false ≡ entry_good h s j
    unfolding used_good
    entry_dots e = sym (asked ∙ simp (and-false, sym dots_are ∙ e))

    pub entry_linked_lem : entry_formed h s j ≡ true → name_spelled r n ≡ true → is_dots (entry_name r) ≡ false → {b : Bool} → b ≡ entry_linked (view_of h s) j
        → b ≡ entry_good h s j
    unfolding used_good
    entry_linked_lem formed spelled own e = e ∙ sym (asked ∙ simp (formed, sym spelled_is ∙ spelled, sym dots_are ∙ own))
