-- The ways out of counting an inode's links as a move edits the entries, and a bound for the count. Assumes nothing.
use Rattle.std.specs.Prelude.{◌≡◌, true, false, ◌+◌, ◌≤◌, ℕ}
use Rattle.std.proofs.Common.{arith}
use Rattle.seq.specs.Truth.{by_test}
use Rattle.seq.proofs.SearchLaws.{count_le}
use Rattle.layout.specs.View.{View, is_directory}
use Rattle.recounts.specs.declared.Move.{Move}
use Rattle.recounts.specs.Recount.{targets_after, entries_after, holds_after, children_after, links_after}

module _ (v : View) (m : Move) (i : ℕ) where
  pub links_directory : is_directory v i ≡ true → links_after v m i ≡ children_after v m i + 2
  unfolding links_after
  links_directory e = rw e (omega arith)

  pub links_other : is_directory v i ≡ false → links_after v m i ≡ entries_after v m i
  unfolding links_after
  links_other e = rw e

  -- no count exceeds the number of entries
  pub entries_le : entries_after v m i ≤ v.entries
  unfolding entries_after
  entries_le = count_le (targets_after v m i) v.entries

  pub children_le : children_after v m i ≤ v.entries
  unfolding children_after
  children_le = count_le (holds_after v m i) v.entries

  pub links_le : links_after v m i ≤ 2 + v.entries
  unfolding links_after
  links_le =
      by_test (λ n. n ≤ 2 + v.entries) (is_directory v i) _ _ (λ _. omega (arith, children_le)) (λ _. omega (arith, entries_le))
