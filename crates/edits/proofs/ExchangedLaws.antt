-- What an exchange may rely on, and that its finished image is consistent again, as a view. Assumes nothing.
-- An exchange looks the same from both sides: what is shown of the first side holds of the second, for the exchange mirrored.
use Rattle.std.specs.Prelude.{◌≡◌, ◌≢◌, ◌⊎◌, List, [], ◌∷◌, ℕ, ◌+◌, ◌≤◌, ◌<◌}
use Rattle.std.proofs.Common.{sym, ap, ◌∙◌, inl, inr, ⊎_elim, arith}
use mathlib.Core.Logic.Dec as dec
use Rattle.std.proofs.Math.Decide.{ℕ_discrete}
use Rattle.seq.specs.Count.{On, bit}
use Rattle.seq.proofs.CountLaws.{bit_le, on_or_off}
use Rattle.seq.specs.Climb.{up}
use Rattle.layout.specs.Limits.{link_limit}
use Rattle.layout.specs.View.{View}
use Rattle.tree.specs.Tree.{targets, holds_directory, child_directories}
use Rattle.edits.specs.Kinds.{IsDirectory, IsSymlink, IsUsed, IsLeaf, EntryUsed}
use Rattle.edits.proofs.KindsLaws.{kind?, either?}
use Rattle.edits.proofs.Tests.{same_target, is_holds, no_holds, same_holds}
use Rattle.edits.specs.ConsistentView.{EntryLinked, ConsistentView}
use Rattle.edits.proofs.ConsistentViewLaws.{only_entry, not_above_parent, not_own_parent, children_limit}
use Rattle.edits.specs.Edit.{Edit}
use Rattle.edits.proofs.EditLaws.{kept, was, leaf_was, stayed, entry_was, linked_moved}
use Rattle.edits.specs.TextChange.{TextChange}
use Rattle.edits.proofs.TextChangeLaws.{texts_freed}
use Rattle.edits.specs.Settled.{holds, SameEntries, SameChildren, DirectoryCount, LeafCount}
use Rattle.edits.proofs.SettledLaws.{change_consistent}
use Rattle.edits.specs.Exchanged.{Side, Exchangeable, Exchanged}
use Rattle.edits.specs.InodeChange.{InodeChange}
use Rattle.edits.proofs.InodeChangeLaws.{inode_below, children_changed, handles_same}

-- the exchange as seen from the other side
pub mirrored : {v : View} {old new moved from replaced into : ℕ} → Exchangeable v old new moved from replaced into
    → Exchangeable v new old replaced into moved from
mirrored ok = record { first = ok.second; second = ok.first; other = λ e. ok.other (sym e); systems = sym ok.systems }

pub mirrored_view : {v w : View} {old new moved from replaced into : ℕ} → Exchanged v w old new moved from replaced into
    → Exchanged v w new old replaced into moved from
mirrored_view x = record {
  first = x.second;
  second = x.first;
  size = x.size;
  entry = λ j l a b. x.entry j l b a;
  same = x.same;
  field = λ i l a b. x.field i l b a;
  links = λ i l a b. x.links i l b a;
  text = x.text;
  handle = x.handle;
}

-- The records that an exchange writes are in use, and different ones: the two slots, and each inode and the two directories.
pub slots_apart : {v : View} {old new moved from replaced into : ℕ} → Exchangeable v old new moved from replaced into → old ≢ new
slots_apart {v} ok e = ok.other (sym ok.first.target ∙ ap v.target e ∙ ok.second.target)

module _ {v : View} {here inode own other there : ℕ} (good : ConsistentView v) (a : Side v here inode own other there) where
  side_linked : EntryLinked v here
  side_linked = good.placed.entry here a.used

  pub side_directory : IsDirectory v own
  side_directory = rw a.parent at side_linked.parent

  pub side_used : IsUsed v inode
  side_used = rw a.target at side_linked.target

  pub side_below_root : inode ≢ 0
  side_below_root e = side_linked.below_root (a.target ∙ e)

  pub side_not_own : inode ≢ own
  side_not_own e = not_own_parent v good here a.used (a.target ∙ e ∙ sym a.parent)

  pub side_not_there : inode ≢ there
  unfolding up
  side_not_there e = a.not_above 0 (sym e)

  -- a directory has no entry but the one in its slot
  pub side_alone : IsDirectory v inode → (j : ℕ) → EntryUsed v j → v.target j ≡ inode → j ≡ here
  side_alone d j u e = only_entry v good.placed here j a.used (rw a.target d) u (e ∙ sym a.target)

  -- it is not above its own directory either
  side_not_above : IsDirectory v inode → (k : ℕ) → up v.field k own ≢ inode
  side_not_above d k e = not_above_parent v good here a.used (rw a.target d) k (rw (a.parent, a.target) e)

-- the slots that are written, and the directories that change sides
abbrev slots : ℕ → ℕ → List ℕ
slots old new = old ∷ new ∷ []

abbrev Reparented : View → ℕ → ℕ → ℕ → Type 0
Reparented v moved replaced i = ((i ≡ moved) × IsDirectory v moved) ⊎ ((i ≡ replaced) × IsDirectory v replaced)

-- the first side of the finished image
module _ {v w : View} {old new moved from replaced into : ℕ} (good : ConsistentView v) (ok : Exchangeable v old new moved from replaced into)
    (x : Exchanged v w old new moved from replaced into) where
  edit : Edit v w (slots old new)
  edit = record {
    size = x.size;
    places = (ok.first.used.0, (slots_apart ok, tt), (ok.second.used.0, tt, tt));
    entry = λ j l off. x.entry j l off.0 off.1.0;
  }

  change : InodeChange v w (slots old new) (λ _. ⊥) (λ _. ⊥) (Reparented v moved replaced)
  change = record {
    edit = edit;
    gone? = λ _. no (λ z. z);
    made? = λ _. no (λ z. z);
    reparented? = λ i. either? (dec.and (ℕ_discrete i moved) (kind? v moved 2)) (dec.and (ℕ_discrete i replaced) (kind? v replaced 2));
    root = ((λ z. z), ⊎_elim (λ r. side_below_root good ok.first (sym r.0)) (λ r. side_below_root good ok.second (sym r.0)));
    gone = λ _ _ z. absurd z;
    unnamed = λ _ z. absurd z;
    made = λ _ z. absurd z;
    directory = λ i. ⊎_elim (λ r. rw r.0 r.1) (λ r. rw r.0 r.1);
    reparented = λ i r j off u e.
        ⊎_elim (λ z. off.0 (side_alone good ok.first z.1 j u (e ∙ z.0))) (λ z. off.1.0 (side_alone good ok.second z.1 j u (e ∙ z.0))) r;
    same = λ i l _ _. x.same i l;
    field = λ i l _ _ n. x.field i l (λ e d. n (inl (e, d))) (λ e d. n (inr (e, d)));
  }

  directory_is : (i : ℕ) → IsDirectory v i → IsDirectory w i
  directory_is i d = kept edit i 2 (x.same i d.0).kind d

  directory_was : (i : ℕ) → IsDirectory w i → IsDirectory v i
  directory_was i d = was edit i 2 (x.same i (inode_below change i d.0)).kind d

  -- the entry names the inode of the other side, which had a good entry there
  first_linked : EntryLinked w old
  first_linked =
      let d = side_directory good ok.first in
      linked_moved edit old from replaced new x.first.parent x.first.target (side_linked good ok.second) ok.second.target
      d (x.same from d.0) (x.same replaced (side_used good ok.second).0) x.second.reparented (rw ok.second.parent (sym ok.systems))

  -- it keeps its parent and its name
  first_named : EntryUsed v old × (w.parent old ≡ v.parent old) × (w.name old ≡ v.name old)
  first_named = (ok.first.used, x.first.parent ∙ sym ok.first.parent, x.first.name)

  -- what it named is now named by the other slot
  first_counts : (i : ℕ) → bit (targets v i old) ≡ bit (targets w i new)
  first_counts i = ap bit (same_target v w i old new ok.first.used.1 x.second.used (ok.first.target ∙ sym x.second.target))

  -- the way up from the new parent of a directory meets neither directory that changed sides
  first_clear : IsDirectory v moved → IsDirectory v (w.field moved)
      × ((k : ℕ) → (up v.field k (w.field moved) ≢ moved) × (IsDirectory v replaced → up v.field k (w.field moved) ≢ replaced))
  first_clear d =
      let e = x.first.reparented d in
      (rw e (side_directory good ok.second), λ k. (rw e (ok.first.not_above k), λ r. rw e (side_not_above good ok.second r k)))

  -- the slot touches the child directories of its own directory alone
  first_elsewhere : (d : ℕ) → d ≢ from → (holds v d old ≡ 0) × (holds w d old ≡ 0)
  first_elsewhere d n =
      (ap bit (no_holds v d old (λ _ e _. n (sym e ∙ ok.first.parent))), ap bit (no_holds w d old (λ _ e _. n (sym e ∙ x.first.parent))))

  -- it counts as before where both inodes are directories, and not at all where the one it names now is none
  first_even : IsDirectory v moved → IsDirectory v replaced → (d : ℕ) → holds v d old ≡ holds w d old
  first_even m r d =
      ap bit (same_holds v w d old old ok.first.used.1 x.first.used (ok.first.parent ∙ sym x.first.parent)
      (rw ok.first.target m) (rw x.first.target (directory_is replaced r)))

  first_none : (IsDirectory v replaced → ⊥) → (d : ℕ) → holds w d old ≡ 0
  first_none n d = ap bit (no_holds w d old (λ _ _ r. n (directory_was replaced (rw x.first.target at r))))

  -- the child directories of directory d, before and after
  children : (d : ℕ) → child_directories w d + holds v d old + holds v d new ≡ child_directories v d + holds w d old + holds w d new
  children d = omega (arith, children_changed change good d)

  children_before : (d : ℕ) → IsDirectory w d → 2 + child_directories v d ≤ link_limit
  children_before d h = children_limit v good d (directory_was d h)

  -- where the first inode is a directory and the second is none, no count goes over the limit
  one_directory : IsDirectory v moved → (IsDirectory v replaced → ⊥) → (d : ℕ) → IsDirectory w d → 2 + child_directories w d ≤ link_limit
  one_directory m r d h = go (ℕ_discrete d into) (ℕ_discrete from into)
    where
      before : 2 + child_directories v d ≤ link_limit
      before = children_before d h

      gained : child_directories w d + holds v d old ≤ child_directories v d + holds w d new
      gained = omega (arith, children d, first_none r d)

      one : holds w d new ≤ 1
      one = bit_le (holds_directory w d new)

      go : Dec (d ≡ into) → Dec (from ≡ into) → 2 + child_directories w d ≤ link_limit
      go (no n) z = omega (arith, before, gained, ap bit (no_holds w d new (λ _ e _. n (sym e ∙ x.second.parent))))
      go (yes e) (yes z) =
          let held = is_holds v d old ok.first.used.1 (ok.first.parent ∙ z ∙ sym e) (rw ok.first.target m) in
          omega (arith, before, gained, one, ap bit held)
      go (yes e) (no z) =
          let less : v.links d ≢ link_limit = rw e (ok.first.room m r z) in
          omega (arith, before, gained, one, good.counted.children d (directory_was d h))

-- both sides
module _ {v w : View} {old new moved from replaced into : ℕ} (good : ConsistentView v) (ok : Exchangeable v old new moved from replaced into)
    (x : Exchanged v w old new moved from replaced into) where
  -- as seen from the second side
  back : Exchangeable v new old replaced into moved from
  back = mirrored ok

  back_view : Exchanged v w new old replaced into moved from
  back_view = mirrored_view x

  written : (j : ℕ) → On j (slots old new) → EntryUsed w j → EntryLinked w j
  written j on _ = ⊎_elim (λ e. rw e (first_linked good ok x)) (⊎_elim (λ e. rw e (first_linked good back back_view)) (λ z. absurd z)) on

  -- every entry keeps its parent and its name
  name_kept : (j : ℕ) → EntryUsed w j → EntryUsed v j × (w.parent j ≡ v.parent j) × (w.name j ≡ v.name j)
  name_kept j u =
      let e = edit good ok x in
      ⊎_elim (⊎_elim (λ z. rw z (first_named good ok x)) (⊎_elim (λ z. rw z (first_named good back back_view)) (λ z. absurd z)))
      (λ off. let s = stayed e j off u.0 in (entry_was e j off u, s.parent, s.name)) (on_or_off j (slots old new))

  named : (c j : ℕ) → On c (slots old new) → EntryUsed w c → EntryUsed w j → c ≢ j → w.parent c ≡ w.parent j → w.name c ≡ w.name j → ⊥
  named c j _ uc uj n ep en =
      let (a, f, g) = name_kept c uc in
      let (b, h, k) = name_kept j uj in
      n (good.distinct c j a b (sym f ∙ ep ∙ h) (sym g ∙ en ∙ k))

  -- no inode has more or fewer entries
  entries_kept : (i : ℕ) → SameEntries v w (slots old new) i
  entries_kept i = omega (arith, first_counts good ok x i, first_counts good back back_view i)

  clear : (i : ℕ) → Reparented v moved replaced i
      → IsDirectory v (w.field i) × ((k : ℕ) → Reparented v moved replaced (up v.field k (w.field i)) → ⊥)
  clear i = ⊎_elim
      (λ (e, d). let (p, c) = first_clear good ok x d in rw e (p, λ k. ⊎_elim (λ z. (c k).0 z.0) (λ z. (c k).1 z.1 z.0)))
      (λ (e, d). let (p, c) = first_clear good back back_view d in rw e (p, λ k. ⊎_elim (λ z. (c k).1 z.1 z.0) (λ z. (c k).0 z.0)))

  children_kept : (d : ℕ) → d ≢ from → d ≢ into → SameChildren v w (slots old new) d
  children_kept d n k =
      let (a, b) = first_elsewhere good ok x d n in
      let (e, f) = first_elsewhere good back back_view d k in
      omega (arith, a, b, e, f)

  children_within : (d : ℕ) → IsDirectory w d → 2 + child_directories w d ≤ link_limit
  children_within d h = go (kind? v moved 2) (kind? v replaced 2)
    where
      -- where the slots add none
      even : holds w d old + holds w d new ≤ holds v d old + holds v d new → 2 + child_directories w d ≤ link_limit
      even e = omega (arith, children_before good ok x d h, children good ok x d)

      go : Dec (IsDirectory v moved) → Dec (IsDirectory v replaced) → 2 + child_directories w d ≤ link_limit
      go (yes m) (no r) = one_directory good ok x m r d h
      go (no m) (yes r) = one_directory good back back_view r m d h
      go (yes m) (yes r) = even (omega (arith, first_even good ok x m r d, first_even good back back_view r m d))
      go (no m) (no r) = even (omega (arith, first_none good ok x r d, first_none good back back_view m d))

  below : (i : ℕ) → i < w.inodes → i < v.inodes
  below = inode_below (change good ok x)

  directory_count_lem : (d : ℕ) → IsDirectory w d → DirectoryCount v w (slots old new) d
  directory_count_lem d h = go (ℕ_discrete d from) (ℕ_discrete d into)
    where
      go : Dec (d ≡ from) → Dec (d ≡ into) → DirectoryCount v w (slots old new) d
      go (yes e) z = inl (rw e x.first.recounted, children_within d h)
      go (no n) (yes e) = inl (rw e x.second.recounted, children_within d h)
      go (no n) (no k) = inr (directory_was good ok x d h, x.links d (below d h.0) n k, children_kept d n k)

  leaf_count_lem : (i : ℕ) → IsLeaf w i → LeafCount v w (slots old new) i
  leaf_count_lem i l =
      let b = leaf_was (edit good ok x) i (x.same i (below i l.0)).kind l in
      inr (b, x.links i b.0 (λ e. b.2 (rw e (side_directory good ok.first).1)) (λ e. b.2 (rw e (side_directory good ok.second).1)), entries_kept i)

  -- a symlink is no directory, so it keeps its field; and its text stays
  texts : TextChange v w (λ _. ⊥) (λ _. ⊥)
  texts =
      texts_freed (λ _. ⊥) 0 (λ _ z. absurd z) (no (λ z. z)) x.size (λ t l _. x.text t l) (λ _ z. absurd z)
      (λ i s _. x.field i s.0 (λ e d. leaf i s (rw e d)) (λ e d. leaf i s (rw e d)))
    where
      leaf : (i : ℕ) → IsSymlink v i → IsDirectory v i → ⊥
      leaf i s d = omega (arith, s.1, d.1)

  -- The finished view is consistent.
  pub exchanged_consistent : ConsistentView w
  exchanged_consistent = change_consistent (change good ok x) good record {
    written = written;
    named = named;
    one_entry = λ i d _. inr (directory_was good ok x i d, entries_kept i);
    clear = λ i _. ⊎_elim (λ z. absurd z) (clear i);
    directory_count_lem = directory_count_lem;
    leaf_count_lem = leaf_count_lem;
    made_kind = λ _ z. absurd z;
    made_plain = λ _ z. absurd z;
    made_mode = λ _ z. absurd z;
    texts = texts;
    handles = handles_same (λ _. ⊥) x.size x.handle (λ _ _ z. z);
  }
