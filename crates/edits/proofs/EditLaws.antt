-- What an edit of some slots does to the counts, to what an entry names, and to the names. Assumes nothing.
use Rattle.std.specs.Prelude.{◌≡◌, ◌≢◌, ◌⊎◌, true, List, ℕ, ◌+◌, ◌<◌}
use Rattle.std.proofs.Common.{sym, ◌∙◌, inl, inr, arith}
use Rattle.std.proofs.Math.Decide.{ℕ_discrete}
use Rattle.seq.specs.Truth.{same_truth}
use Rattle.seq.specs.Count.{Off, On, bits}
use Rattle.seq.proofs.CountLaws.{on_or_off, count_edited}
use Rattle.layout.specs.View.{View}
use Rattle.tree.specs.Tree.{targets, entries_of, holds_directory, child_directories}
use Rattle.edits.specs.Kinds.{IsKind, IsDirectory, IsUsed, IsLeaf, EntryUsed}
use Rattle.edits.proofs.Tests.{holds_is, is_holds}
use Rattle.edits.specs.ConsistentView.{EntryLinked}
use Rattle.edits.specs.Edit.{SameEntry, SameInode, Edit}

module _ {v w : View} {slots : List ℕ} (edit : Edit v w slots) where
  -- an inode that keeps its type is the same in both views
  pub kept : (i k : ℕ) → w.kind i ≡ v.kind i → IsKind v i k → IsKind w i k
  kept i k e (l, f) = (omega (arith, edit.size), e ∙ f)

  pub was : (i k : ℕ) → w.kind i ≡ v.kind i → IsKind w i k → IsKind v i k
  was i k e (l, f) = (omega (arith, edit.size), sym e ∙ f)

  pub leaf_was : (i : ℕ) → w.kind i ≡ v.kind i → IsLeaf w i → IsLeaf v i
  leaf_was i e (l, u, n) = (omega (arith, edit.size), (λ z. u (e ∙ z)), λ z. n (e ∙ z))

  -- an entry that stayed, seen from the view after
  pub stayed : (j : ℕ) → Off j slots → j < w.entries → SameEntry v w j
  stayed j off l = edit.entry j (omega (arith, edit.size)) off

  pub entry_was : (j : ℕ) → Off j slots → EntryUsed w j → EntryUsed v j
  entry_was j off (l, u) = (omega (arith, edit.size), λ z. u ((stayed j off l).name_length ∙ z))

  pub entry_agrees : (j : ℕ) → Off j slots → EntryUsed v j → EntryUsed w j
  entry_agrees j off (l, u) = (omega (arith, edit.size), λ z. u (sym (edit.entry j l off).name_length ∙ z))

  -- rules 21 to 23, 29 and 35 for an entry that stayed, where its parent and its target stay too
  pub linked_kept : (j : ℕ) → j < v.entries → Off j slots → EntryLinked v j → SameInode v w (v.parent j) → SameInode v w (v.target j)
      → (IsDirectory v (v.target j) → w.field (v.target j) ≡ v.field (v.target j)) → EntryLinked w j
  linked_kept j b off l p t field =
      let s = edit.entry j b off in
      record {
        below_root = λ z. l.below_root (sym s.target ∙ z);
        parent = rw s.parent (kept _ 2 p.kind l.parent);
        target = rw s.target (omega (arith, edit.size, l.target.0), λ z. l.target.1 (sym t.kind ∙ z));
        above = λ d.
            let e : IsDirectory v (v.target j) = was _ 2 t.kind (rw s.target at d) in
            rw (s.target, s.parent) (field e ∙ l.above e);
        system = λ n. rw (s.target, s.parent) (t.system ∙ l.system (λ d. n (rw s.target (kept _ 2 t.kind d))) ∙ sym p.system);
      }

  -- the same for a written entry, where the inode that it names and the directory that it lies in are kept
  pub linked_new : (j parent target : ℕ) → w.parent j ≡ parent → w.target j ≡ target
      → IsDirectory v parent → SameInode v w parent → IsUsed v target → SameInode v w target → target ≢ 0
      → (IsDirectory v target → w.field target ≡ parent) → ((IsDirectory v target → ⊥) → v.system target ≡ v.system parent) → EntryLinked w j
  linked_new j parent target ep et d sd u st n above system = record {
    below_root = λ z. n (sym et ∙ z);
    parent = rw ep (kept parent 2 sd.kind d);
    target = rw et (omega (arith, edit.size, u.0), λ z. u.1 (sym st.kind ∙ z));
    above = λ h. rw (et, ep) (above (was target 2 st.kind (rw et at h)));
    system = λ m. rw (et, ep) (st.system ∙ system (λ h. m (rw et (kept target 2 st.kind h))) ∙ sym sd.system);
  }

  -- so it is good where the inode had a good entry k before, in a directory of the same file system
  pub linked_moved : (j parent target k : ℕ) → w.parent j ≡ parent → w.target j ≡ target → EntryLinked v k → v.target k ≡ target
      → IsDirectory v parent → SameInode v w parent → SameInode v w target
      → (IsDirectory v target → w.field target ≡ parent) → v.system (v.parent k) ≡ v.system parent → EntryLinked w j
  linked_moved j parent target k ep et l e d sd st above system =
      linked_new j parent target ep et d sd (rw e at l.target) st (λ z. l.below_root (e ∙ z)) above
      (λ n. rw e at (l.system (λ h. n (rw e at h))) ∙ system)

  -- rule 27: names stay distinct if no name in a written slot is that of another entry
  pub distinct_edited : ((i j : ℕ) → EntryUsed v i → EntryUsed v j → v.parent i ≡ v.parent j → v.name i ≡ v.name j → i ≡ j)
      → ((c j : ℕ) → On c slots → EntryUsed w c → EntryUsed w j → c ≢ j → w.parent c ≡ w.parent j → w.name c ≡ w.name j → ⊥)
      → (i j : ℕ) → EntryUsed w i → EntryUsed w j → w.parent i ≡ w.parent j → w.name i ≡ w.name j → i ≡ j
  distinct_edited before clear i j ui uj ep en = go (ℕ_discrete i j) (on_or_off i slots) (on_or_off j slots)
    where
      go : Dec (i ≡ j) → On i slots ⊎ Off i slots → On j slots ⊎ Off j slots → i ≡ j
      go (yes e) oi oj = e
      go (no n) (inl oi) oj = absurd (clear i j oi ui uj n ep en)
      go (no n) (inr oi) (inl oj) = absurd (clear j i oj uj ui (λ e. n (sym e)) (sym ep) (sym en))
      go (no n) (inr oi) (inr oj) =
          let s = stayed i oi ui.0 in
          let t = stayed j oj uj.0 in
          before i j (entry_was i oi ui) (entry_was j oj uj) (sym s.parent ∙ ep ∙ t.parent) (sym s.name ∙ en ∙ t.name)

  -- rules 28 and 32: the entries of inode i
  pub entries_edited : (i : ℕ) → entries_of w i + bits (targets v i) slots ≡ entries_of v i + bits (targets w i) slots
  unfolding entries_of
  entries_edited i = rw edit.size.entries (count_edited (targets v i) (targets w i) v.entries slots edit.places same)
    where
      same : (j : ℕ) → j < v.entries → Off j slots → targets w i j ≡ targets v i j
      same j l off = let s = edit.entry j l off in rw (s.name_length, s.target)

  -- rule 31: the child directories of directory d, where the target of every other entry keeps its type
  module _ (types : (j : ℕ) → Off j slots → EntryUsed v j → w.kind (v.target j) ≡ v.kind (v.target j)) where
    pub children_edited : (d : ℕ) → child_directories w d + bits (holds_directory v d) slots ≡ child_directories v d + bits (holds_directory w d) slots
    unfolding child_directories
    children_edited d =
        rw edit.size.entries (count_edited (holds_directory v d) (holds_directory w d) v.entries slots edit.places same)
      where
        same : (j : ℕ) → j < v.entries → Off j slots → holds_directory w d j ≡ holds_directory v d j
        same j l off = same_truth _ _ before after
          where
            s : SameEntry v w j
            s = edit.entry j l off

            before : holds_directory w d j ≡ true → holds_directory v d j ≡ true
            before h =
                let (u, e, t) = holds_is w d j h in
                let b : v.name_length j ≢ 0 = λ z. u (s.name_length ∙ z) in
                is_holds v d j b (sym s.parent ∙ e) (was (v.target j) 2 (types j off (l, b)) (rw s.target at t))

            after : holds_directory v d j ≡ true → holds_directory w d j ≡ true
            after h =
                let (u, e, t) = holds_is v d j h in
                is_holds w d j (λ z. u (sym s.name_length ∙ z)) (s.parent ∙ e) (rw s.target (kept (v.target j) 2 (types j off (l, u)) t))
