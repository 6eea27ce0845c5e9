-- The finished image of a rename is consistent again, as a view. Assumes nothing.
use Rattle.std.specs.Prelude.{◌≡◌, ◌≢◌, List, [], ◌∷◌, ℕ, ◌+◌, ◌≤◌, ◌<◌}
use Rattle.std.proofs.Math.Path.{sym, ap}
use Rattle.std.proofs.Common.{◌∙◌, inl, inr, arith}
use Rattle.std.proofs.Math.Logic.{⊎_elim}
use mathlib.Core.Logic.Dec as dec
use Rattle.std.proofs.Math.Decide.{ℕ_discrete}
use Rattle.seq.specs.Count.{Off, On, bit}
use Rattle.seq.proofs.CountLaws.{bit_le, on_or_off, count_zero}
use Rattle.seq.specs.Climb.{up}
use Rattle.layout.specs.Limits.{link_limit}
use Rattle.layout.specs.View.{View}
use Rattle.tree.specs.Tree.{targets, entries_of, holds_directory, child_directories}
use Rattle.edits.specs.Kinds.{IsDirectory, IsUsed, IsLeaf, EntryUsed, HandleOpen}
use Rattle.edits.proofs.KindsLaws.{directory_used, kind?, entry_used?}
use Rattle.edits.proofs.Tests.{is_targets, no_targets, same_target, is_holds, no_holds}
use Rattle.edits.specs.ConsistentView.{EntryLinked, ConsistentView}
use Rattle.edits.proofs.ConsistentViewLaws.{only_entry, not_own_parent, children_limit}
use Rattle.edits.specs.Edit.{SameInode, Edit}
use Rattle.edits.proofs.EditLaws.{was, leaf_was, stayed, entry_was, linked_moved, entries_edited}
use Rattle.edits.specs.TextChange.{TextChange}
use Rattle.edits.proofs.TextChangeLaws.{texts_freed}
use Rattle.edits.specs.Settled.{holds, SameEntries, SameChildren, DirectoryCount, LeafCount}
use Rattle.edits.proofs.SettledLaws.{change_consistent}
use Rattle.edits.specs.Moved.{Allowed, Replaced, Gone, Moved}
use Rattle.edits.proofs.MovedLaws.{replaced?, gone?}
use Rattle.edits.specs.InodeChange.{InodeChange}
use Rattle.edits.proofs.InodeChangeLaws.{inode_below, same_was, children_changed, handles_same}

module _ {v : View} {old new moved from into : ℕ} {called : List ℕ} (good : ConsistentView v) (ok : Allowed v old new moved from into called) where
  abbrev slots : List ℕ
  slots = old ∷ new ∷ []

  pub slots_differ : old ≢ new
  slots_differ e = ok.other (rw e at ok.old_used) (ap v.target (sym e) ∙ ok.old_target)

  -- the old entry, and what it names
  old_linked : EntryLinked v old
  old_linked = good.placed.entry old ok.old_used

  pub from_directory : IsDirectory v from
  from_directory = rw ok.old_parent at old_linked.parent

  moved_used : IsUsed v moved
  moved_used = rw ok.old_target at old_linked.target

  pub moved_below_root : moved ≢ 0
  moved_below_root e = old_linked.below_root (ok.old_target ∙ e)

  -- nothing lies in the replaced inode
  nothing_in : EntryUsed v new → (j : ℕ) → EntryUsed v j → v.parent j ≢ v.target new
  nothing_in u j l e = go (kind? v (v.target new) 2)
    where
      go : Dec (IsDirectory v (v.target new)) → ⊥
      go (yes d) = ok.empty u d j l e
      go (no n) = n (rw e at (good.placed.entry j l).parent)

  -- The records that a rename writes are different ones: neither parent is replaced, nor is the moved inode, and that is neither parent.
  pub from_stays : Replaced v new from → ⊥
  from_stays (u, e) = nothing_in u old ok.old_used (ok.old_parent ∙ sym e)

  pub into_stays : Replaced v new into → ⊥
  into_stays (u, e) = nothing_in u new u (ok.new_parent u ∙ sym e)

  pub moved_stays : Replaced v new moved → ⊥
  moved_stays (u, e) = ok.other u e

  pub moved_not_from : moved ≢ from
  moved_not_from e = not_own_parent v good old ok.old_used (ok.old_target ∙ e ∙ sym ok.old_parent)

  pub moved_not_into : moved ≢ into
  unfolding up
  moved_not_into e = ok.not_above 0 (sym e)

  module _ {w : View} (m : Moved v w old new moved from into called) where
    edit : Edit v w slots
    edit = record {
      size = m.size;
      places = (ok.old_used.0, (slots_differ, tt), (ok.new_below, tt, tt));
      entry = λ j l off. m.entry j l off.0 off.1.0;
    }

    -- the old slot is free
    old_free : (j : ℕ) → j ≡ old → EntryUsed w j → ⊥
    old_free j e l = l.1 (ap w.name_length e ∙ m.cleared)

    -- the slots touch no count of entries but the replaced inode's, which loses one
    old_counts : (i : ℕ) → bit (targets w i old) ≡ 0
    old_counts i = ap bit (no_targets w i old (λ u. absurd (u m.cleared)))

    moves : (i : ℕ) → bit (targets v i old) ≡ bit (targets w i new)
    moves i = ap bit (same_target v w i old new ok.old_used.1 m.used (ok.old_target ∙ sym m.target))

    entries_kept : (i : ℕ) → (Replaced v new i → ⊥) → SameEntries v w slots i
    entries_kept i n = omega (arith, old_counts i, moves i, ap bit (no_targets v i new (λ u e. n ((ok.new_below, u), e))))

    entries_lost : (i : ℕ) → Replaced v new i → entries_of v i ≡ entries_of w i + 1
    entries_lost i (u, e) = omega (arith, entries_edited edit i, old_counts i, moves i, ap bit (is_targets v i new u.1 e))

    -- no entry names a freed inode
    unnamed : (i : ℕ) → Gone v w new i → (j : ℕ) → EntryUsed w j → (w.parent j ≢ i) × (w.target j ≢ i)
    unfolding entries_of
    unnamed i ((u, e), none) j l =
        (λ z. ⊎_elim (on z) (off z) (on_or_off j slots), λ z. count_zero (targets w i) w.entries none j l.0 (is_targets w i j l.1 z))
      where
        at_new : w.parent j ≡ i → j ≡ new → ⊥
        at_new z a = into_stays (u, e ∙ sym z ∙ ap w.parent a ∙ m.parent)

        on : w.parent j ≡ i → On j slots → ⊥
        on z = ⊎_elim (λ a. old_free j a l) (⊎_elim (at_new z) (λ f. f))

        off : w.parent j ≡ i → Off j slots → ⊥
        off z o = nothing_in u j (entry_was edit j o l) (sym (stayed edit j o l.0).parent ∙ z ∙ sym e)

    -- a moved directory gets another parent, and it has no other entry
    abbrev Reparented : ℕ → Type 0
    Reparented i = (i ≡ moved) × IsDirectory v moved

    no_other_entry : (i : ℕ) → Reparented i → (j : ℕ) → Off j slots → EntryUsed v j → v.target j ≢ i
    no_other_entry i (e, d) j off l z = off.0 (only_entry v good.placed old j ok.old_used (rw ok.old_target d) l (z ∙ e ∙ sym ok.old_target))

    change : InodeChange v w slots (Gone v w new) (λ _. ⊥) Reparented
    change = record {
      edit = edit;
      gone? = gone? v w new;
      made? = λ _. no (λ x. x);
      reparented? = λ i. dec.and (ℕ_discrete i moved) (kind? v moved 2);
      root = ((λ g. (good.placed.entry new g.0.0).below_root g.0.1), λ r. moved_below_root (sym r.0));
      gone = m.freed;
      unnamed = unnamed;
      made = λ _ x. absurd x;
      directory = λ i r. rw r.0 r.1;
      reparented = no_other_entry;
      same = λ i l g _. m.same i l g;
      field = λ i l g _ r. m.field i l g (λ e d. r (e, d));
    }

    -- an inode that is in use now is kept
    used_same : (i : ℕ) → IsUsed w i → SameInode v w i
    used_same i u = same_was change i u (λ x. x)

    directory_was : (i : ℕ) → IsDirectory w i → IsDirectory v i
    directory_was i d = was edit i 2 (used_same i (directory_used w i d)).kind d

    -- the new entry
    new_linked : EntryLinked w new
    new_linked =
        linked_moved edit new into moved old m.parent m.target old_linked ok.old_target
        ok.into_directory (m.same into ok.into_directory.0 (λ g. into_stays g.0))
        (m.same moved moved_used.0 (λ g. moved_stays g.0)) m.reparented (rw ok.old_parent ok.systems)

    written : (j : ℕ) → On j slots → EntryUsed w j → EntryLinked w j
    written j on l = ⊎_elim (λ a. absurd (old_free j a l)) (⊎_elim (λ a. rw a new_linked) (λ f. absurd f)) on

    -- a directory that is left was not replaced
    directory_not_replaced : (i : ℕ) → IsDirectory w i → Replaced v new i → ⊥
    directory_not_replaced i d r =
        let one = good.placed.one_entry i (directory_was i d) (λ z. (good.placed.entry new r.0).below_root (r.1 ∙ z)) in
        (directory_used w i d).1 (m.freed i (inode_below change i d.0) (r, omega (arith, entries_lost i r)))

    -- the way up from the new parent does not meet the moved inode
    clear : (i : ℕ) → Reparented i → IsDirectory v (w.field i) × ((k : ℕ) → Reparented (up v.field k (w.field i)) → ⊥)
    clear i (e, d) =
        let f : w.field i ≡ into = ap w.field e ∙ m.reparented d in
        (rw f ok.into_directory, λ k r. ok.not_above k (rw f at r.0))

    -- the slots touch the child directories of the two parents alone
    old_holds : (d : ℕ) → holds w d old ≡ 0
    old_holds d = ap bit (no_holds w d old (λ u _ _. u m.cleared))

    new_holds : (d : ℕ) → d ≢ into → holds w d new ≡ 0
    new_holds d n = ap bit (no_holds w d new (λ _ e _. n (sym e ∙ m.parent)))

    children_kept : (d : ℕ) → d ≢ from → d ≢ into → SameChildren v w slots d
    children_kept d not-from not-into =
        omega (
          arith,
          old_holds d,
          new_holds d not-into,
          ap bit (no_holds v d old (λ _ e _. not-from (sym e ∙ ok.old_parent))),
          ap bit (no_holds v d new (λ u e _. not-into (sym e ∙ ok.new_parent (ok.new_below, u)))),
        )

    -- and neither parent has more than the limit
    children_within : (d : ℕ) → IsDirectory w d → 2 + child_directories w d ≤ link_limit
    children_within d h = go (ℕ_discrete d into) (kind? v moved 2) (ℕ_discrete from into) (entry_used? v new)
      where
        counted : v.links d ≡ 2 + child_directories v d
        counted = good.counted.children d (directory_was d h)

        before : 2 + child_directories v d ≤ link_limit
        before = children_limit v good d (directory_was d h)

        children : child_directories w d + holds v d old + holds v d new ≡ child_directories v d + holds w d new
        children = omega (arith, children_changed change good d, old_holds d)

        -- where the new entry adds none, or takes the place of one
        even : holds w d new ≤ holds v d old + holds v d new → 2 + child_directories w d ≤ link_limit
        even e = omega (arith, before, children)

        one : holds w d new ≤ 1
        one = bit_le (holds_directory w d new)

        go : Dec (d ≡ into) → Dec (IsDirectory v moved) → Dec (from ≡ into) → Dec (EntryUsed v new) → 2 + child_directories w d ≤ link_limit
        go (no n) s p u = even (omega (arith, new_holds d n))
        go (yes e) (no n) p u = even (omega (arith, ap bit (no_holds w d new (λ _ _ t. n (directory_was moved (rw m.target at t))))))
        go (yes e) (yes s) (yes p) u =
            even (omega (arith, one, ap bit (is_holds v d old ok.old_used.1 (ok.old_parent ∙ p ∙ sym e) (rw ok.old_target s))))
        go (yes e) (yes s) (no p) (yes u) =
            even (omega (arith, one, ap bit (is_holds v d new u.1 (ok.new_parent u ∙ sym e) (ok.alike u s))))
        go (yes e) (yes s) (no p) (no u) =
            let less : v.links d ≢ link_limit = rw e (ok.room s p u) in
            omega (arith, counted, before, children, one)

    directory_count_lem : (d : ℕ) → IsDirectory w d → DirectoryCount v w slots d
    directory_count_lem d h = go (ℕ_discrete d from) (ℕ_discrete d into)
      where
        b : d < v.inodes
        b = inode_below change d h.0

        go : Dec (d ≡ from) → Dec (d ≡ into) → DirectoryCount v w slots d
        go (yes e) x = inl (m.parents d b (inl e), children_within d h)
        go (no n) (yes e) = inl (m.parents d b (inr e), children_within d h)
        go (no n) (no k) = inr (directory_was d h, m.links d b n k (directory_not_replaced d h), children_kept d n k)

    leaf_count_lem : (i : ℕ) → IsLeaf w i → LeafCount v w slots i
    leaf_count_lem i (l, u, n) = go (replaced? v new i)
      where
        b : IsLeaf v i
        b = leaf_was edit i (used_same i (l, u)).kind (l, u, n)

        left : Gone v w new i → ⊥
        left g = u (m.freed i b.0 g)

        go : Dec (Replaced v new i) → LeafCount v w slots i
        go (yes r) =
            let some : entries_of w i ≢ 0 = λ z. left (r, z) in
            let c = good.counted in
            inl (m.replaced i b.0 r left, omega arith, omega (arith, entries_lost i r, c.entries i b, c.within i (b.0, b.1)))
        go (no r) =
            inr (b, m.links i b.0 (λ e. b.2 (rw e from_directory.1)) (λ e. b.2 (rw e ok.into_directory.1)) r, entries_kept i r)

    -- the new name is that of no entry that stayed
    name_free : (j : ℕ) → Off j slots → EntryUsed v j → v.parent j ≡ into → v.name j ≢ called
    name_free j off l ep en = go (entry_used? v new)
      where
        go : Dec (EntryUsed v new) → ⊥
        go (yes u) = off.1.0 (good.distinct j new l u (ep ∙ sym (ok.new_parent u)) (en ∙ sym (ok.new_name_lem u)))
        go (no u) = ok.missing u j l ep en

    named : (c j : ℕ) → On c slots → EntryUsed w c → EntryUsed w j → c ≢ j → w.parent c ≡ w.parent j → w.name c ≡ w.name j → ⊥
    named c j on lc lj n ep en = ⊎_elim (λ a. old_free c a lc) (⊎_elim at_new (λ f. f)) on
      where
        stays : c ≡ new → Off j slots → ⊥
        stays a off =
            let e = stayed edit j off lj.0 in
            name_free j off (entry_was edit j off lj)
            (sym e.parent ∙ sym ep ∙ ap w.parent a ∙ m.parent) (sym e.name ∙ sym en ∙ ap w.name a ∙ m.name)

        at_new : c ≡ new → ⊥
        at_new a = ⊎_elim (⊎_elim (λ b. old_free j b lj) (⊎_elim (λ b. n (a ∙ sym b)) (λ f. f))) (stays a) (on_or_off j slots)

    texts : TextChange v w (Gone v w new) (λ _. ⊥)
    texts =
        texts_freed (Gone v w new) (v.target new) (λ i g. sym g.0.1) (gone? v w new (v.target new)) m.size m.text m.text_freed
        (λ i a b. m.field i a.0 (λ g. omega (arith, b.1, m.freed i a.0 g)) (λ e d. omega (arith, a.1, rw (sym e) at d.1)))

    handles : (n : ℕ) → HandleOpen w n → HandleOpen v n × (w.opened n ≡ v.opened n) × (Gone v w new (v.opened n) → ⊥)
    handles = handles_same (Gone v w new) m.size m.handle closed
      where
        last : (i : ℕ) → Gone v w new i → entries_of v i ≡ 1
        last i g = omega (arith, entries_lost i g.0, g.1)

        closed : (n : ℕ) → HandleOpen v n → Gone v w new (v.opened n) → ⊥
        closed n o g = ok.unopened g.0.0 (ap (entries_of v) g.0.1 ∙ last _ g) n o (sym g.0.1)

    -- The finished view is consistent.
    pub moved_consistent : ConsistentView w
    moved_consistent = change_consistent change good record {
      written = written;
      named = named;
      one_entry = λ i d _. inr (directory_was i d, entries_kept i (directory_not_replaced i d));
      clear = λ i _. ⊎_elim (λ x. absurd x) (clear i);
      directory_count_lem = directory_count_lem;
      leaf_count_lem = leaf_count_lem;
      made_kind = λ _ x. absurd x;
      made_plain = λ _ x. absurd x;
      made_mode = λ _ x. absurd x;
      texts = texts;
      handles = handles;
    }
