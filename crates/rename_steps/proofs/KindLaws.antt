-- Steps 8 to 10 as the code asks for them, by the type number of the inode to replace: a law for each way out. Assumes nothing.
use Rattle.std.specs.Prelude.{◌≡◌, Bool, true, false, List, ℕ}
use Rattle.std.proofs.Common.{sym, ◌∙◌, lit<}
use Rattle.layout.specs.declared.Shape.{Shape}
use Rattle.layout.specs.Errno.{EACCES, ENOTDIR, EISDIR, ENOTEMPTY}
use Rattle.layout.specs.Facts.{Laid}
use Rattle.layout.specs.View.{View, view_of, kind_of, is_directory}
use Rattle.layout.proofs.ViewLaws.{kind_of_lem, other_kind}
use Rattle.refusals.specs.declared.case.Case.{Case}
use Rattle.refusals.specs.Case.{exists}
use Rattle.rename_steps.specs.Tests.{moved_denied, has_entries}
use Rattle.refusals.specs.CaseIn.{CaseIn}
use Rattle.rename_steps.specs.Kinds.{TypesFit}
use Rattle.rename_steps.proofs.KindsLaws.{no_directory, kind_missing, kind_exists, fit_missing, fit_directories, empty_missing, empty_directory}
use Rattle.refusals.specs.Rules.{number_of, decide}
use Rattle.rename_steps.specs.Steps.{kind_rules}

-- k is the type number as it was read
module _ (h : Shape) (s : List ℕ) (c : Case) (laid : Laid h s) (within : CaseIn (view_of h s) c) {k : ℕ} (says : k ≡ kind_of (view_of h s) c.replaced) where
  abbrev v : View
  v = view_of h s

  abbrev answer : ℕ
  answer = number_of (decide (kind_rules v c))

  free : k ≡ 0 → kind_of v c.replaced ≡ 0
  free z = sym says ∙ z

  missing : k ≡ 0 → exists c ≡ false
  missing z = kind_missing v c within (free z)

  directory : k ≡ 2 → is_directory v c.replaced ≡ true
  directory z = kind_of_lem v c.replaced 2 (sym says ∙ z) (lit< tt)

  there : (k ≡ 0 → ⊥) → exists c ≡ true
  there n = kind_exists h s c laid (λ e. n (says ∙ e))

  no_directory_there : (k ≡ 2 → ⊥) → is_directory v c.replaced ≡ false
  no_directory_there n = other_kind v c.replaced 2 (λ e. n (says ∙ e))

  -- a directory moves, and step 9 was asked
  module _ (moves : is_directory v c.moved ≡ true) where
    module _ {d : Bool} (asked : d ≡ moved_denied v c) where
      module _ (z : k ≡ 0) where
        fit_new : TypesFit v c
        fit_new = fit_missing v c moves (missing z)

        pub new_denied : d ≡ true → EACCES ≡ answer
        new_denied e = simp (fit_new.other, fit_new.directory, fit_new.slashed, sym asked ∙ e)

        pub new_passes : d ≡ false → 0 ≡ answer
        new_passes e = simp (fit_new.other, fit_new.directory, fit_new.slashed, sym asked ∙ e, empty_missing v c (free z))

      module _ (z : k ≡ 2) where
        fit_both : TypesFit v c
        fit_both = fit_directories v c moves (directory z)

        pub onto_denied : d ≡ true → EACCES ≡ answer
        onto_denied e = simp (fit_both.other, fit_both.directory, fit_both.slashed, sym asked ∙ e)

        module _ {b : Bool} (full : b ≡ has_entries v c.replaced) (e : d ≡ false) where
          pub onto_full : b ≡ true → ENOTEMPTY ≡ answer
          onto_full f = simp (fit_both.other, fit_both.directory, fit_both.slashed, sym asked ∙ e, empty_directory v c (directory z) ∙ sym full ∙ f)

          pub onto_passes : b ≡ false → 0 ≡ answer
          onto_passes f = simp (fit_both.other, fit_both.directory, fit_both.slashed, sym asked ∙ e, empty_directory v c (directory z) ∙ sym full ∙ f)

    pub onto_other : (k ≡ 0 → ⊥) → (k ≡ 2 → ⊥) → ENOTDIR ≡ answer
    onto_other m n = simp (moves, there m, no_directory_there n)

  -- anything else moves
  module _ (moves : is_directory v c.moved ≡ false) where
    pub other_slashed : k ≡ 0 → c.slash ≡ true → ENOTDIR ≡ answer
    other_slashed z e = simp (moves, no_directory v c.replaced (free z), missing z, e)

    pub other_new : k ≡ 0 → c.slash ≡ false → 0 ≡ answer
    other_new z e = simp (moves, no_directory v c.replaced (free z), missing z, e)

    pub other_directory : k ≡ 2 → EISDIR ≡ answer
    other_directory z = simp (moves, directory z)

    pub other_passes : (k ≡ 0 → ⊥) → (k ≡ 2 → ⊥) → 0 ≡ answer
    other_passes m n = simp (moves, there m, no_directory_there n)
