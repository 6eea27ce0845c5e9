-- The finished image of a rename is consistent: check answers 0 on it. Assumes nothing.
use Rattle.std.specs.Prelude.{◌≡◌, ◌≢◌, ◌⊎◌, List, [], ◌∷◌, ℕ, ◌+◌, ◌<◌}
use Rattle.std.proofs.Math.Path.{refl, sym, ap, subst}
use Rattle.std.proofs.Common.{◌∙◌}
use Rattle.std.proofs.Math.Logic.{inl, inr, ⊎_elim}
use Rattle.std.proofs.Math.Bool.{true, false}
use Rattle.std.proofs.Math.Decide.{ℕ_discrete}
use native.Mathlib.Omega.{arith}
use Rattle.std.proofs.lemmas.List.{get_or-replicate}
use borrow.Author.Tests.{eq-eqb, ne_eqb}
use Rattle.seq.specs.Bytes.{part}
use Rattle.seq.specs.Count.{bit}
use Rattle.seq.proofs.CountLaws.{count_edited}
use Rattle.layout.specs.declared.Shape.{Shape}
use Rattle.layout.specs.Limits.{absent}
use Rattle.layout.specs.View.{View, view_of, inode_at, text_at}
use Rattle.encode.specs.Facts.{Says}
use Rattle.encode.specs.InodeLaws.{says_itself}
use Rattle.tree.specs.Tree.{targets, entries_of, child_directories}
use Rattle.consistency.specs.Sound.{journal_clear}
use Rattle.consistency.specs.Consistent.{consistent, check_number}
use Rattle.consistency.proofs.ConsistentLaws.{consistent_checked}
use Rattle.consistency.specs.RecordFacts.{Bodies}
use Rattle.edits.specs.Kinds.{IsDirectory, IsSymlink}
use Rattle.edits.proofs.KindsLaws.{kind?}
use Rattle.edits.proofs.Tests.{kind_test, no_kind, is_targets, no_targets}
use Rattle.edits.specs.Moved.{Replaced, Gone}
use Rattle.edits.proofs.MovedLaws.{replaced?}
use Rattle.edits.proofs.Finished.{slots_differ, from_directory}
use Rattle.edits.specs.Written.{Touched, Written}
use Rattle.edits.proofs.WrittenLaws.{same_entry, written_consistent}
use Rattle.recounts.specs.declared.Move.{Move}
use Rattle.recounts.specs.Recount.{targets_after, entries_after, children_after, links_after}
use Rattle.results.specs.Results.{free_record}
use Rattle.recounts.proofs.Edited.{edited_old, edited_new, edited_else}
use Rattle.recounts.proofs.Links.{links_directory, links_other}
use Rattle.results.proofs.RecordLaws.{replaced_freed, replaced_says}
use Rattle.afresh.specs.Recount.{Agrees, Made}
use Rattle.afresh.proofs.RecountLaws.{entries_agree, children_agree, entries_made, children_made}
use Rattle.afresh.proofs.Inodes.{inode_long}
use Rattle.outcome.specs.Outcome.{finished}
use Rattle.outcome.proofs.Whole.{consistent_of}
use Rattle.outcome.proofs.Inodes.{moved_says, moved_leaf_says, moved_links, parent_says}
use Rattle.outcome.specs.Called.{Called}
use Rattle.outcome.proofs.CalledLaws.{before_good, replaced_is, is_replaced_lem, replaced_present, replaced_below, freed_text_lem, in_image, entry_bytes_lem, new_entry_names}
use Rattle.outcome.proofs.Finished.{finished_ok, new_written, old_cleared_lem, moved_written, from_written, into_written, replaced_written, text_cleared, entry_kept, inode_kept, finished_text, handle_kept, journal_kept}
use Rattle.outcome.proofs.PlanRows.{links_small}

module _ {h : Shape} {s : List ℕ} {m : Move} {called : List ℕ} (c : Called h s m called) where
  abbrev t : List ℕ
  t = finished h s m called

  abbrev v : View
  v = view_of h s

  abbrev w : View
  w = view_of h t

  -- ---- each inode

  moved_directory : IsDirectory v m.moved
      → Says (inode_at h s m.moved) (inode_at h t m.moved) (v.links m.moved) m.into (v.modified m.moved) m.now
  moved_directory = moved_says c.read.laid t m c.time (in_image c).moved (moved_written c) (in_image c).into

  moved_leaf : (IsDirectory v m.moved → ⊥)
      → Says (inode_at h s m.moved) (inode_at h t m.moved) (v.links m.moved) (v.field m.moved) (v.modified m.moved) m.now
  moved_leaf = moved_leaf_says c.read.laid t m c.time (in_image c).moved (moved_written c)

  holder : (i : ℕ) → (i ≡ m.from) ⊎ (i ≡ m.into) → Says (inode_at h s i) (inode_at h t i) (links_after v m i) (v.field i) m.now m.now
  holder i = ⊎_elim
      (λ e. rw e (parent_says c.read.laid t _ _ m.now c.time (in_image c).from (links_small c m.from) (from_written c)))
      (λ e. rw e (parent_says c.read.laid t _ _ m.now c.time (in_image c).into (links_small c m.into) (into_written c)))

  -- the replaced inode has entries left, or has none and is freed
  left_says : (i : ℕ) → Replaced v m.new i → entries_after v m i ≢ 0
      → Says (inode_at h s i) (inode_at h t i) (links_after v m i) (v.field i) (v.modified i) m.now
  unfolding view_of
  left_says i r n =
      let e = is_replaced_lem c i r in
      subst (λ (k : ℕ). entries_after v m k ≢ 0 → Says (inode_at h s k) (inode_at h t k) (links_after v m k) (v.field k) (v.modified k) m.now) e
      (λ n. rw (replaced_written c (replaced_present c r.0))
      (replaced_says _ (inode_long h s c.read.laid m.replaced (rw e (replaced_below c i r))) m.now c.time h _ _ n (links_small c m.replaced))) n

  freed_zero : (i : ℕ) → Replaced v m.new i → entries_after v m i ≡ 0 → inode_at h t i ≡ free_record h 0
  freed_zero i r z =
      let e = is_replaced_lem c i r in
      subst (λ (k : ℕ). entries_after v m k ≡ 0 → inode_at h t k ≡ free_record h 0) e
      (λ z. replaced_written c (replaced_present c r.0) ∙ replaced_freed h _ (links_after v m m.replaced) m.now (inode_at h s m.replaced) z) z

  untouched : (i : ℕ) → i < h.inodes → (Touched v m.new m.moved m.from m.into i → ⊥) → inode_at h t i ≡ inode_at h s i
  untouched i l n =
      inode_kept c i l (λ e. n (inl e)) (λ e. n (inr (inl e))) (λ e. n (inr (inr (inl e)))) (λ e. n (inr (inr (inr (there e)))))
    where
      there : i ≡ m.replaced → Replaced v m.new i
      there e =
          let present : m.replaced ≢ absent = λ z. omega (arith, c.read.laid.inodes_most, e ∙ z) in
          rw e (replaced_is c present)

  -- what an inode is: as before but for link count and times, or a moved directory, or freed
  data Inode (i : ℕ) : Type 0 where
    kept : (links modified changed : ℕ) → Says (inode_at h s i) (inode_at h t i) links (v.field i) modified changed → Inode i
    turned : i ≡ m.moved → IsDirectory v m.moved → (links modified changed : ℕ)
        → Says (inode_at h s i) (inode_at h t i) links m.into modified changed → Inode i
    freed : Replaced v m.new i → entries_after v m i ≡ 0 → Inode i

  which : (i : ℕ) → i < h.inodes → Inode i
  unfolding view_of
  which i l = go (ℕ_discrete i m.moved) (kind? v m.moved 2) (ℕ_discrete i m.from) (ℕ_discrete i m.into) (replaced? v m.new i)
      (ℕ_discrete (entries_after v m i) 0)
    where
      go : Dec (i ≡ m.moved) → Dec (IsDirectory v m.moved) → Dec (i ≡ m.from) → Dec (i ≡ m.into) → Dec (Replaced v m.new i)
          → Dec (entries_after v m i ≡ 0) → Inode i
      go (yes e) (yes d) p q r z = turned e d (v.links m.moved) (v.modified m.moved) m.now (rw e (moved_directory d))
      go (yes e) (no d) p q r z = kept (v.links m.moved) (v.modified m.moved) m.now (rw e (moved_leaf d))
      go (no n) d (yes e) q r z = kept _ _ _ (holder i (inl e))
      go (no n) d (no p) (yes e) r z = kept _ _ _ (holder i (inr e))
      go (no n) d (no p) (no q) (yes r) (yes z) = freed r z
      go (no n) d (no p) (no q) (yes r) (no z) = kept _ _ _ (left_says i r z)
      go (no n) d (no p) (no q) (no r) z =
          kept (v.links i) (v.modified i) (v.changed i)
          (rw (untouched i l (⊎_elim n (⊎_elim p (⊎_elim q r)))) (says_itself (inode_at h s i) (inode_long h s c.read.laid i l)))

  -- ---- the counts

  kinds : (i : ℕ) → i < v.inodes → (w.kind i ≡ v.kind i) ⊎ (entries_after v m i ≡ 0)
  unfolding view_of
  kinds i l = go (which i l)
    where
      go : Inode i → (w.kind i ≡ v.kind i) ⊎ (entries_after v m i ≡ 0)
      go (kept _ _ _ x) = inl x.head.kind
      go (turned _ _ _ _ _ x) = inl x.head.kind
      go (freed _ z) = inr z

  pub finished_agrees : Agrees v w m
  unfolding view_of
  finished_agrees = record {
    size = record { inodes = refl; entries = refl; texts = refl; handles = refl };
    entry = λ j l old new. same_entry h s t j (entry_kept c j l old new);
    kind = kinds;
  }

  pub finished_made : Made w m
  unfolding view_of
  finished_made = record {
    cleared = rw (old_cleared_lem c) (get_or-replicate h.width 4 0 0 (omega (arith, c.read.laid.width_least)));
    used = λ z. c.nonempty (sym (new_entry_names c).name_length_lem ∙ (rw (new_written c) at z));
    parent = rw (new_written c) (new_entry_names c).parent;
    target = rw (new_written c) (new_entry_names c).target;
  }

  -- what is counted on the image before, as edited, is what the finished image has
  pub entries_finished : (i : ℕ) → entries_of w i ≡ entries_after v m i
  entries_finished i = entries_made finished_made i ∙ entries_agree finished_agrees i

  pub children_finished : (d : ℕ) → child_directories w d ≡ children_after v m d
  children_finished d = children_made finished_made d ∙ children_agree finished_agrees d

  parent_count : (i : ℕ) → IsDirectory v i → links_after v m i ≡ 2 + child_directories w i
  parent_count i d = links_directory v m i (kind_test v i 2 d) ∙ omega (arith, children_finished i)

  -- the replaced inode has lost one entry, so a directory, which had one, is freed
  lost : (i : ℕ) → Replaced v m.new i → entries_of v i ≡ entries_after v m i + 1
  unfolding entries_of entries_after
  lost i (u, e) =
      let differ = slots_differ (before_good c) c.allowed in
      let other : m.moved ≢ i = λ z. c.allowed.other u (e ∙ sym z) in
      let here : targets v i m.new ≡ true = is_targets v i m.new u.1 e in
      let there : targets v i m.old ≡ false = no_targets v i m.old (λ _ z. other (sym c.allowed.old_target ∙ z)) in
      let old : targets_after v m i m.old ≡ false = edited_old m m.old _ _ _ refl in
      let new : targets_after v m i m.new ≡ false = edited_new m m.new _ _ _ (λ z. differ (sym z)) refl ∙ ne_eqb _ _ other in
      omega (
        arith,
        count_edited (targets v i) (targets_after v m i) v.entries (m.old ∷ m.new ∷ [])
            (c.allowed.old_used.0, (differ, tt), (c.allowed.new_below, tt, tt)) (λ j _ off. edited_else m j _ _ _ off.0 off.1.0),
        ap bit here,
        ap bit there,
        ap bit old,
        ap bit new,
      )

  no_directory : (i : ℕ) → Replaced v m.new i → entries_after v m i ≢ 0 → IsDirectory v i → ⊥
  no_directory i r n d =
      let below : i ≢ 0 = λ z. ((before_good c).placed.entry m.new r.0).below_root (r.1 ∙ z) in
      n (omega (arith, lost i r, (before_good c).placed.one_entry i d below))

  left_count : (i : ℕ) → Replaced v m.new i → entries_after v m i ≢ 0 → links_after v m i ≡ entries_of w i
  left_count i r n = links_other v m i (no_kind v i 2 (no_directory i r n)) ∙ sym (entries_finished i)

  -- ---- the records as an edit has them

  gone_none : (i : ℕ) → Gone v w m.new i → entries_after v m i ≡ 0
  gone_none i g = sym (entries_finished i) ∙ g.1

  left_some : (i : ℕ) → Replaced v m.new i → (Gone v w m.new i → ⊥) → entries_after v m i ≢ 0
  left_some i r n z = n (r, entries_finished i ∙ z)

  head : (i : ℕ) → i < h.inodes → (Gone v w m.new i → ⊥) → part (inode_at h t i) 0 12 ≡ part (inode_at h s i) 0 12
  head i l n = go (which i l)
    where
      go : Inode i → part (inode_at h t i) 0 12 ≡ part (inode_at h s i) 0 12
      go (kept _ _ _ x) = x.head.front
      go (turned _ _ _ _ _ x) = x.head.front
      go (freed r z) = absurd (left_some i r n z)

  field : (i : ℕ) → i < h.inodes → (Gone v w m.new i → ⊥) → (i ≡ m.moved → IsDirectory v m.moved → ⊥) → w.field i ≡ v.field i
  unfolding view_of
  field i l n still = go (which i l)
    where
      go : Inode i → w.field i ≡ v.field i
      go (kept _ _ _ x) = x.field
      go (turned e d _ _ _ x) = absurd (still e d)
      go (freed r z) = absurd (left_some i r n z)

  -- a text is freed exactly where its symlink is
  text_freed : (i : ℕ) → Gone v w m.new i → IsSymlink v i → (m.text ≢ absent) × (m.text ≡ v.field i)
  unfolding view_of
  text_freed i g y =
      let e : m.text ≡ v.field i =
      subst (λ (k : ℕ). IsSymlink v k → entries_after v m k ≡ 0 → m.text ≡ v.field k) (is_replaced_lem c i g.0)
      (λ y z. c.text ∙ rw (kind_test v m.replaced 3 y, eq-eqb _ _ z)) y (gone_none i g) in
      ((λ z. omega (arith, ((before_good c).texts.used i y).0, sym e ∙ z, c.read.laid.texts_most)), e)

  text_stays : (x : ℕ) → x < h.texts → ((i : ℕ) → Gone v w m.new i → IsSymlink v i → v.field i ≢ x) → x ≢ m.text
  unfolding view_of
  text_stays x l n e =
      let present : m.text ≢ absent = λ z. omega (arith, c.read.laid.texts_most, e ∙ z) in
      let (y, z, f) = freed_text_lem c present in
      let used : m.replaced ≢ absent = λ z. omega (arith, y.0, c.read.laid.inodes_most) in
      n m.replaced (replaced_is c used, entries_finished m.replaced ∙ z) y (sym f ∙ sym e)

  pub finished_written : Written h s t m.old m.new m.moved m.from m.into c.name
  unfolding view_of
  finished_written = record {
    entry = entry_kept c;
    cleared = old_cleared_lem c;
    written = new_written c ∙ entry_bytes_lem c;
    inode = untouched;
    freed = λ i l g. freed_zero i g.0 (gone_none i g);
    head = head;
    reparented = λ d. (moved_directory d).field;
    field = field;
    parents = λ i e. (holder i e).links ∙ parent_count i (holds i e);
    replaced = λ i r n. (left_says i r (left_some i r n)).links ∙ left_count i r (left_some i r n);
    links = moved_links c.read.laid t m c.time (in_image c).moved (moved_written c) (in_image c).into;
    text = λ x l n. finished_text c x l (text_stays x l n);
    text_freed = λ i g y. let (n, e) = text_freed i g y in subst (λ (x : ℕ). text_at h t x ≡ free_record h 2) e (text_cleared c n);
    handle = handle_kept c;
  }
    where
      holds : (i : ℕ) → (i ≡ m.from) ⊎ (i ≡ m.into) → IsDirectory v i
      holds i = ⊎_elim (λ e. rw e (from_directory (before_good c) c.allowed)) (λ e. rw e c.allowed.into_directory)

  -- ---- consistent

  pub finished_bodies : Bodies h t
  finished_bodies = written_consistent c.read.laid c.bodies c.allowed finished_written c.nonempty c.short c.good

  pub finished_clear : journal_clear h t ≡ true
  unfolding journal_clear
  finished_clear = rw (journal_kept c) c.clear

  pub before_consistent : consistent s ≡ true
  before_consistent = consistent_of c.read c.clear c.bodies

  pub finished_consistent : consistent t ≡ true
  finished_consistent = consistent_of (finished_ok c).read finished_clear finished_bodies

  -- The job check answers 0.
  pub finished_checked : check_number t ≡ 0
  finished_checked = consistent_checked t finished_consistent
