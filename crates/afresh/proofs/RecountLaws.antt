-- Views that agree off the slots of a move have the same counts as edited. Assumes nothing.
use Rattle.std.specs.Prelude.{◌≡◌, refl, ◌≢◌, Bool, true, ◌&&◌, ℕ, ◌<◌}
use Rattle.std.proofs.Common.{sym, ◌∙◌, arith}
use Rattle.std.proofs.Math.Path.{ap}
use Rattle.std.proofs.Math.Logic.{⊎_elim}
use Rattle.std.proofs.Math.Bool.{false}
use Rattle.std.proofs.Math.Dec.{eqb}
use borrow.Author.Tests.{eq-eqb, ne_eqb}
use Rattle.seq.specs.Truth.{same_truth}
use Rattle.seq.proofs.SearchLaws.{count_same}
use Rattle.seq.proofs.CountLaws.{count_zero}
use Rattle.layout.specs.View.{View, entry_used, is_directory}
use Rattle.tree.specs.Tree.{targets, holds_directory, entries_of, child_directories}
use Rattle.edits.proofs.Tests.{kind_is, kind_test}
use Rattle.edits.specs.Edit.{SameEntry, SameSize}
use Rattle.recounts.specs.declared.Move.{Move}
use Rattle.recounts.specs.Recount.{targets_after, holds_after, entries_after, children_after, links_after}
use Rattle.recounts.proofs.Edited.{edited_new, edited_else, edited_is, edited_same}
use Rattle.afresh.specs.Recount.{Agrees, Made}

-- an inode of one type in both views is a directory in both or in neither
pub directory_same : {v w : View} → SameSize v w → (i : ℕ) → (i < v.inodes → w.kind i ≡ v.kind i) → is_directory w i ≡ is_directory v i
directory_same {v} {w} size i kept =
    same_truth _ _ (λ e. let (b, k) = kind_is w i 2 e in
    let c : i < v.inodes = omega (arith, size) in kind_test v i 2 (c, sym (kept c) ∙ k))
    (λ e. let (b, k) = kind_is v i 2 e in kind_test w i 2 (omega (arith, size), kept b ∙ k))

-- an entry that stays counts as before, if what it names does
pub holds_same : {v w : View} (d j : ℕ) → SameEntry v w j → (entry_used v j ≡ true → is_directory w (v.target j) ≡ is_directory v (v.target j))
    → holds_directory w d j ≡ holds_directory v d j
holds_same {v} {w} d j s f = go (entry_used v j) refl
  where
    go : (b : Bool) → entry_used v j ≡ b → holds_directory w d j ≡ holds_directory v d j
    go true u = rw (s.name_length, s.parent, s.target, f u)
    go false u = rw (s.name_length, u)

module _ {v w : View} {m : Move} (a : Agrees v w m) where
  pub entries_agree : (i : ℕ) → entries_after w m i ≡ entries_after v m i
  unfolding entries_after
  entries_agree i =
      rw a.size.entries (count_same (targets_after w m i) (targets_after v m i) v.entries (λ j l. edited_same m j _ _ _ _ _ _ (λ _. refl) (λ _ _. refl) (other j l)))
    where
      other : (j : ℕ) → j < v.entries → j ≢ m.old → j ≢ m.new → targets w i j ≡ targets v i j
      other j l n k = let s = a.entry j l n k in rw (s.name_length, s.target)

  -- what an entry as edited names keeps its type
  named_kind : (i j : ℕ) → j < v.entries → targets_after v m i j ≡ true → i < v.inodes → w.kind i ≡ v.kind i
  unfolding entries_after
  named_kind i j l t b = ⊎_elim (λ e. e) (λ z. absurd (count_zero (targets_after v m i) v.entries z j l t)) (a.kind i b)

  directory_agree : (i j : ℕ) → j < v.entries → targets_after v m i j ≡ true → is_directory w i ≡ is_directory v i
  directory_agree i j l t = directory_same a.size i (named_kind i j l t)

  pub children_agree : (d : ℕ) → children_after w m d ≡ children_after v m d
  unfolding children_after
  children_agree d =
      rw a.size.entries (count_same (holds_after w m d) (holds_after v m d) v.entries (λ j l. edited_same m j _ _ _ _ _ _ (λ _. refl) (new j l) (other j l)))
    where
      new : (j : ℕ) → j < v.entries → j ≢ m.old → j ≡ m.new → (eqb m.into d && is_directory w m.moved) ≡ (eqb m.into d && is_directory v m.moved)
      new j l n e =
          ap (λ (b : Bool). eqb m.into d && b) (directory_agree m.moved j l (edited_new m j _ _ _ n e ∙ eq-eqb m.moved _ refl))

      other : (j : ℕ) → j < v.entries → j ≢ m.old → j ≢ m.new → holds_directory w d j ≡ holds_directory v d j
      other j l n k =
          holds_same d j (a.entry j l n k) (λ u. directory_agree (v.target j) j l (edited_else m j _ _ _ n k ∙ rw (u, eq-eqb (v.target j) _ refl)))

  -- the count of an inode that kept its type
  pub links_agree : (i : ℕ) → w.kind i ≡ v.kind i → links_after w m i ≡ links_after v m i
  unfolding links_after
  links_agree i e = rw (children_agree i, entries_agree i, a.size.inodes, e)

module _ {w : View} {m : Move} (made : Made w m) where
  pub entries_made : (i : ℕ) → entries_of w i ≡ entries_after w m i
  unfolding entries_of entries_after
  entries_made i =
      count_same (targets w i) (targets_after w m i) w.entries (λ j l.
      edited_is m j (targets w i j) false (eqb m.moved i) (targets w i j) (λ e. rw (e, made.cleared)) (λ _ e. rw (e, ne_eqb _ _ made.used, made.target)) (λ _ _. refl))

  pub children_made : (d : ℕ) → child_directories w d ≡ children_after w m d
  unfolding child_directories children_after
  children_made d =
      count_same (holds_directory w d) (holds_after w m d) w.entries (λ j l.
      edited_is m j (holds_directory w d j) false (eqb m.into d && is_directory w m.moved) (holds_directory w d j) (λ e. rw (e, made.cleared))
      (λ _ e. rw (e, ne_eqb _ _ made.used, made.parent, made.target)) (λ _ _. refl))
