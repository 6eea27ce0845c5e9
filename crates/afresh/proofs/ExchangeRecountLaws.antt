-- Views that agree off the slots of an exchange have the same counts as exchanged; and once exchanged, those are the counts as they stand. Assumes nothing.
use Rattle.std.specs.Prelude.{◌≡◌, refl, ◌&&◌, ℕ, eqb}
use Rattle.std.proofs.Common.{ne_eqb}
use Rattle.seq.proofs.SearchLaws.{count_same}
use Rattle.layout.specs.View.{View, is_directory}
use Rattle.tree.specs.Tree.{holds_directory, child_directories}
use Rattle.recounts.specs.declared.Move.{Move}
use Rattle.recounts.proofs.Edited.{edited_is, edited_same}
use Rattle.exchanges.specs.Exchange.{back, holds_exchanged, children_exchanged}
use Rattle.afresh.proofs.RecountLaws.{directory_same, holds_same}
use Rattle.afresh.specs.ExchangeRecount.{OffSlots, GoneOver}

module _ {v w : View} {m : Move} (a : OffSlots v w m) where
  directory_off : (i : ℕ) → is_directory w i ≡ is_directory v i
  directory_off i = directory_same a.size i (a.kind i)

  pub exchanged_agree : (d : ℕ) → children_exchanged w m d ≡ children_exchanged v m d
  unfolding children_exchanged
  exchanged_agree d =
      rw a.size.entries (count_same (holds_exchanged w m d) (holds_exchanged v m d) v.entries (λ j l. edited_same m j _ _ _ _ _ _
      (λ _. rw (directory_off m.replaced)) (λ _ _. rw (directory_off m.moved)) (λ n k. holds_same d j (a.entry j l n k) (λ _. directory_off (v.target j)))))

-- what the slot of one inode counts for
slot_holds : {w : View} {m : Move} → GoneOver w m → (d j : ℕ) → j ≡ m.new → holds_directory w d j ≡ (eqb m.into d && is_directory w m.moved)
slot_holds g d j e = rw (e, ne_eqb _ _ g.used, g.parent, g.target)

module _ {w : View} {m : Move} (first : GoneOver w m) (second : GoneOver w (back m)) where
  pub exchanged_made : (d : ℕ) → child_directories w d ≡ children_exchanged w m d
  unfolding child_directories children_exchanged
  exchanged_made d =
      count_same (holds_directory w d) (holds_exchanged w m d) w.entries (λ j l.
      edited_is m j (holds_directory w d j) _ _ _ (λ e. slot_holds second d j e) (λ _ e. slot_holds first d j e) (λ _ _. refl))
