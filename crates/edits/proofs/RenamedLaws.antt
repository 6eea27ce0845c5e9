-- The finished view of a rename has the facts of Moved.antt, so it is consistent. Assumes nothing.
use Rattle.std.specs.Prelude.{◌≡◌, ◌≢◌, ◌⊎◌, Bool, true, false, ◌&&◌, ◌||◌, List, [], ℕ, ◌+◌, eqb, length}
use Rattle.std.proofs.Math.Path.{refl, ap}
use Rattle.std.proofs.Common.{sym, ◌∙◌, inl, inr, ⊎_elim, arith}
use Rattle.std.proofs.Math.Bool.{or-true}
use borrow.Author.Tests.{eqb-true, eqb-false, eq-eqb, ne_eqb, not-true}
use Rattle.seq.specs.Truth.{refuted, and_left, and_right, and_both}
use Rattle.seq.proofs.CountLaws.{count_zero}
use Rattle.layout.specs.View.{View, is_directory}
use Rattle.tree.specs.Tree.{targets, entries_of, child_directories}
use Rattle.edits.specs.Kinds.{IsDirectory, IsSymlink, EntryUsed}
use Rattle.edits.proofs.Tests.{kind_is, kind_test, is_targets}
use Rattle.edits.specs.ConsistentView.{ConsistentView}
use Rattle.edits.specs.Edit.{SameInode, Edit}
use Rattle.edits.proofs.EditLaws.{entries_edited, children_edited}
use Rattle.edits.specs.Moved.{Allowed, Replaced, Gone, Moved}
use Rattle.edits.proofs.Finished.{slots_differ, from_stays, into_stays, moved_stays, moved_consistent}
use Rattle.edits.specs.Renamed.{edited_view, is_replaced, is_gone, text_gone, moved_view}

module _ {v : View} {old new moved from into : ℕ} {called : List ℕ} (good : ConsistentView v) (ok : Allowed v old new moved from into called)
    (nonempty : length called ≢ 0) where
  abbrev e : View
  e = edited_view v old new moved from into called

  abbrev w : View
  w = moved_view v old new moved from into called

  abbrev replaced : ℕ → Bool
  replaced = is_replaced v old new moved from into called

  abbrev gone : ℕ → Bool
  gone = is_gone v old new moved from into called

  -- the recount does not see what becomes of the inodes
  recounted : Edit e w []
  unfolding edited_view moved_view
  recounted = record {
    size = record { inodes = refl; entries = refl; texts = refl; handles = refl };
    places = tt;
    entry = λ j _ _. record { parent = refl; target = refl; name_length = refl; name = refl };
  }

  entries_same : (i : ℕ) → entries_of w i ≡ entries_of e i
  entries_same i = omega (arith, entries_edited recounted i)

  -- the tests as facts
  replaced_is : (i : ℕ) → replaced i ≡ true → Replaced v new i
  replaced_is i h =
      ((ok.new_below, eqb-false _ _ (not-true (eqb (v.name_length new) 0) (search (and_left, and_right)))), eqb-true _ _ (search (and_left, and_right)))

  is_replaced_lem : (i : ℕ) → Replaced v new i → replaced i ≡ true
  is_replaced_lem i (u, t) = rw (ne_eqb _ _ u.1, eq-eqb _ _ t)

  not_replaced : (i : ℕ) → (Replaced v new i → ⊥) → replaced i ≡ false
  not_replaced i n = refuted (replaced i) (λ h. n (replaced_is i h))

  gone_is : (i : ℕ) → gone i ≡ true → Gone v w new i
  gone_is i h = (replaced_is i (and_left (replaced i) _ h), entries_same i ∙ eqb-true _ _ (and_right (replaced i) _ h))

  is_gone_lem : (i : ℕ) → Gone v w new i → gone i ≡ true
  is_gone_lem i (r, z) = and_both (replaced i) _ (is_replaced_lem i r) (eq-eqb _ _ (sym (entries_same i) ∙ z))

  not_gone : (i : ℕ) → (Gone v w new i → ⊥) → gone i ≡ false
  not_gone i n = refuted (gone i) (λ h. n (gone_is i h))

  -- an inode that is not freed
  same : (i : ℕ) → (Gone v w new i → ⊥) → SameInode v w i
  unfolding moved_view
  same i n = let z = not_gone i n in record { kind = rw z; system = rw z; mode = rw z }

  named_kept : (j : ℕ) → EntryUsed e j → Gone v w new (e.target j) → ⊥
  unfolding entries_of
  named_kept j l g = count_zero (targets e _) e.entries (sym (entries_same _) ∙ g.1) j l.0 (is_targets e _ j l.1 refl)

  children_same : (d : ℕ) → child_directories w d ≡ child_directories e d
  unfolding edited_view
  children_same d = omega (arith, children_edited recounted (λ j _ l. (same _ (named_kept j l)).kind) d)

  -- the parents are not replaced
  parent_stays : (i : ℕ) → (i ≡ from) ⊎ (i ≡ into) → Replaced v new i → ⊥
  parent_stays i h r = ⊎_elim (λ z. from_stays good ok (rw z at r)) (λ z. into_stays good ok (rw z at r)) h

  is_parent : (i : ℕ) → (i ≡ from) ⊎ (i ≡ into) → (eqb i from || eqb i into) ≡ true
  is_parent i h = ⊎_elim (λ (z : i ≡ from). rw (eq-eqb i from z)) (λ (z : i ≡ into). rw (eq-eqb i into z, or-true)) h

  no_parent : (i : ℕ) → i ≢ from → i ≢ into → (eqb i from || eqb i into) ≡ false
  no_parent i a b = rw (ne_eqb _ _ a, ne_eqb _ _ b)

  not_reparented : (i : ℕ) → (i ≡ moved → IsDirectory v moved → ⊥) → (eqb i moved && is_directory v moved) ≡ false
  not_reparented i n =
      refuted _ (λ h. n (eqb-true _ _ (and_left (eqb i moved) _ h)) (kind_is v moved 2 (and_right (eqb i moved) (is_directory v moved) h)))

  text_kept : (t : ℕ) → ((i : ℕ) → Gone v w new i → IsSymlink v i → v.field i ≢ t) → text_gone v old new moved from into called t ≡ false
  text_kept t n =
      refuted _ (λ h. n (v.target new) (gone_is _ (search (and_left, and_right))) (kind_is v _ 3 (search (and_left, and_right))) (eqb-true _ _ (search (and_left, and_right))))

  pub renamed_moved : Moved v w old new moved from into called
  unfolding edited_view moved_view
  renamed_moved = record {
    size = record { inodes = refl; entries = refl; texts = refl; handles = refl };
    entry = λ j _ a b.
        let x = ne_eqb _ _ a in
        let y = ne_eqb _ _ b in
        record { parent = rw (y, x); target = rw (y, x); name_length = rw (y, x); name = rw (y, x) };
    cleared = rw (ne_eqb _ _ (slots_differ good ok), eq-eqb old old refl);
    used = λ z. nonempty (rw (eq-eqb new new refl) at z);
    parent = rw (eq-eqb new new refl);
    target = rw (eq-eqb new new refl);
    name = rw (eq-eqb new new refl);
    freed = λ i _ g. rw (is_gone_lem i g);
    same = λ i _. same i;
    reparented = λ d. rw (not_gone moved (λ g. moved_stays good ok g.0), eq-eqb moved moved refl, kind_test v moved 2 d);
    field = λ i _ n r. rw (not_gone i n, not_reparented i r);
    parents = λ i _ h. rw (not_gone i (λ g. parent_stays i h g.0), is_parent i h) (ap (λ n. 2 + n) (sym (children_same i)));
    replaced = λ i _ r n.
        rw (not_gone i n, no_parent i (λ z. parent_stays i (inl z) r) (λ z. parent_stays i (inr z) r), is_replaced_lem i r) (sym (entries_same i));
    links = λ i _ a b n. rw (not_gone i (λ g. n g.0), no_parent i a b, not_replaced i n);
    text = λ t _ n. rw (text_kept t n);
    text_freed = text_freed;
    handle = λ _ _. record { state = refl; opened = refl };
  }
    where
      text_freed : (i : ℕ) → Gone v w new i → IsSymlink v i → w.text_length (v.field i) ≡ 0
      text_freed i ((u, t), z) l =
          rw (is_gone_lem (v.target new) ((u, refl), ap (entries_of w) t ∙ z), kind_test v (v.target new) 3 (rw t l), eq-eqb _ _ (ap v.field t))

  -- The finished view of a rename is consistent.
  pub renamed_consistent : ConsistentView w
  renamed_consistent = moved_consistent good ok renamed_moved
