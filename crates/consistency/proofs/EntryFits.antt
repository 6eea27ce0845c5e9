-- The name of a consistent entry lies within its record, and zeros follow it. Assumes nothing.
use Rattle.std.specs.Prelude.{◌≡◌, true, List, ℕ, ◌+◌, ◌≤◌}
use Rattle.std.proofs.Math.Decide.{ℕ_discrete}
use Rattle.std.proofs.Common.{arith, leb-true, ne_eqb}
use Rattle.seq.specs.Search.{all}
use Rattle.seq.specs.Truth.{and_left}
use Rattle.seq.proofs.SearchLaws.{all_at}
use Rattle.layout.specs.declared.Shape.{Shape}
use Rattle.layout.specs.Facts.{Laid}
use Rattle.layout.specs.View.{view_of, name_room}
use Rattle.names.specs.NameTests.{Named}
use Rattle.consistency.specs.Entry.{entry_formed, entry_good}
use Rattle.consistency.proofs.RecordFactLaws.{entry_is}

module _ (h : Shape) (s : List ℕ) (laid : Laid h s) where
  room_fits : (j : ℕ) → (view_of h s).name_length j ≤ name_room h → 8 + (view_of h s).name_length j ≤ h.width
  room_fits j l = omega (arith, laid.width_least)

  pub formed_fits : (j : ℕ) → entry_formed h s j ≡ true → 8 + (view_of h s).name_length j ≤ h.width
  unfolding entry_formed
  formed_fits j e = room_fits j (leb-true ((view_of h s).name_length j) (name_room h) (and_left _ _ e))

  good_fits : (j : ℕ) → entry_good h s j ≡ true → 8 + (view_of h s).name_length j ≤ h.width
  good_fits j e = go (ℕ_discrete ((view_of h s).name_length j) 0)
    where
      go : Dec ((view_of h s).name_length j ≡ 0) → 8 + (view_of h s).name_length j ≤ h.width
      go (yes z) = omega (arith, laid.width_least)
      go (no z) = room_fits j ((entry_is h s j e).used (rw (ne_eqb _ _ z))).short

  pub entries_named : all (entry_good h s) h.entries ≡ true → Named h s
  entries_named e = record {
    fits = λ j l. good_fits j (all_at (entry_good h s) h.entries e j l);
    padded = λ j l u. ((entry_is h s j (all_at (entry_good h s) h.entries e j l)).used u).filled;
  }
