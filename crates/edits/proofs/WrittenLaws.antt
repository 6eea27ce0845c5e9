-- The finished image of a rename in bytes: its records are well formed, and its bodies are consistent. Assumes nothing.
use Rattle.std.specs.Prelude.{◌≡◌, ◌≢◌, Bool, cond, List, ℕ, ◌≤◌, ◌<◌, length, replicate}
use Rattle.std.proofs.Math.Path.{refl, ap}
use Rattle.std.proofs.Common.{sym, ◌∙◌, subst, inl, inr, ⊎_elim, arith}
use Rattle.std.proofs.Math.Bool.{true, false}
use Rattle.std.proofs.Math.Decide.{ℕ_discrete}
use Rattle.std.proofs.lemmas.List.{get_or-replicate}
use borrow.Author.Tests.{eqb-false, not-true}
use Rattle.seq.specs.Search.{all}
use Rattle.seq.specs.Bytes.{part, zeros, no_zero}
use Rattle.seq.proofs.BytesLaws.{zeros_replicate}
use Rattle.layout.specs.declared.Shape.{Shape}
use Rattle.layout.specs.Limits.{text_size, text_room}
use Rattle.layout.specs.Facts.{Laid}
use Rattle.layout.specs.Fields.{inode_kind, inode_links, entry_parent, entry_target, entry_name_length, entry_name, text_length, handle_state, handle_inode}
use Rattle.layout.specs.View.{View, view_of, entry_at, text_at, handle_at, entry_used, name_room}
use Rattle.encode.specs.Facts.{Names}
use Rattle.encode.specs.Entry.{entry_bytes, retargeted}
use Rattle.encode.specs.EntryLaws.{entry_names}
use Rattle.names.specs.NameTests.{name_good}
use Rattle.tree.specs.Tree.{entries_of}
use Rattle.consistency.specs.RecordFacts.{Bodies}
use Rattle.edits.specs.Kinds.{IsSymlink, EntryUsed}
use Rattle.edits.proofs.KindsLaws.{directory_used, kind?}
use Rattle.edits.specs.ConsistentView.{ConsistentView}
use Rattle.edits.specs.Edit.{SameEntry, SameInode, SameHandle, SameSize}
use Rattle.edits.specs.Moved.{Allowed, Replaced, Gone, Moved}
use Rattle.edits.proofs.MovedLaws.{gone?}
use Rattle.edits.specs.Formed.{EntryForm, TextForm, Formed, InodeFormed, EntryFormed, TextFormed}
use Rattle.edits.proofs.FormedLaws.{formed_changed}
use Rattle.edits.proofs.Bodies.{bodies_consistent, bodies_formed}
use Rattle.edits.proofs.PartlyWritten.{same_head, head_form, retargeted_names, names_form}
use Rattle.edits.proofs.FinishedBodies.{rename_consistent}
use Rattle.edits.specs.Written.{Touched, Written}

-- two images of one shape
pub same_size : (h : Shape) (s t : List ℕ) → SameSize (view_of h s) (view_of h t)
unfolding view_of
same_size h s t = record { inodes = refl; entries = refl; texts = refl; handles = refl }

-- an entry or a handle that keeps its bytes
pub same_entry : (h : Shape) (s t : List ℕ) (j : ℕ) → entry_at h t j ≡ entry_at h s j → SameEntry (view_of h s) (view_of h t) j
unfolding view_of
same_entry h s t j e = record { parent = ap entry_parent e; target = ap entry_target e; name_length = ap entry_name_length e; name = ap entry_name e }

pub same_handle : (h : Shape) (s t : List ℕ) (n : ℕ) → handle_at h t n ≡ handle_at h s n → SameHandle (view_of h s) (view_of h t) n
unfolding view_of
same_handle h s t n e = record { state = ap handle_state e; opened = ap handle_inode e }

-- a text of zeros is free
blank_text : (h : Shape) (t : List ℕ) (x : ℕ) → text_at h t x ≡ replicate text_size 0 → TextForm h t x
unfolding view_of no_zero part all
blank_text h t x e = record { short = rw e (omega arith); filled = rw e (zeros_replicate text_size 1 text_room (omega arith)); bytes = rw e }

-- the new entry: where the slot was in use it is taken over, with parent and name as they are, and else it is made
module _ {h : Shape} {s : List ℕ} {old new moved from into : ℕ} {called : List ℕ} (laid : Laid h s) (f : Bodies h s)
    (ok : Allowed (view_of h s) old new moved from into called) where
  moved_below : moved < h.inodes
  unfolding view_of
  moved_below = rw ok.old_target at ((bodies_consistent f).placed.entry old ok.old_used).target.0

  taken_over : EntryUsed (view_of h s) new → Names (retargeted moved (entry_at h s new)) h.width into moved called
  taken_over u =
      let r = retargeted moved (entry_at h s new) in
      subst (λ (n : List ℕ). Names r h.width into moved n) (ok.new_name_lem u)
      (subst (λ (p : ℕ). Names r h.width p moved ((view_of h s).name new)) (ok.new_parent u)
      (retargeted_names laid (bodies_formed f) new u moved moved_below))

  pub new_names : length called ≤ name_room h
      → Names (cond (entry_used (view_of h s) new) (retargeted moved (entry_at h s new)) (entry_bytes h.width into moved called)) h.width into moved called
  unfolding view_of
  new_names fitting = go (entry_used (view_of h s) new) refl
    where
      go : (b : Bool) → entry_used (view_of h s) new ≡ b
          → Names (cond b (retargeted moved (entry_at h s new)) (entry_bytes h.width into moved called)) h.width into moved called
      go true u = taken_over (ok.new_below, eqb-false _ _ (not-true _ u))
      go false u =
          entry_names h.width into moved called (omega (arith, fitting, laid.width_least)) (omega (arith, ok.into_directory.0, laid.inodes_most))
          (omega (arith, moved_below, laid.inodes_most))

module _ {h : Shape} {s t : List ℕ} {old new moved from into : ℕ} {called : List ℕ} (laid : Laid h s) (f : Bodies h s)
    (ok : Allowed (view_of h s) old new moved from into called) (m : Written h s t old new moved from into called)
    (nonempty : length called ≢ 0) (fitting : length called ≤ name_room h) (named : name_good called ≡ true) where
  abbrev v : View
  v = view_of h s

  abbrev w : View
  w = view_of h t

  good : ConsistentView v
  good = bodies_consistent f

  form : Formed h s
  form = bodies_formed f

  head_kept : (i : ℕ) → i < h.inodes → (Gone v w new i → ⊥) → SameInode v w i
  head_kept i l n = same_head h s t i (m.head i l n)

  new_entry_lem : Names (entry_at h t new) h.width into moved called
  new_entry_lem = rw m.written (new_names laid f ok fitting)

  new_form : EntryForm h t new
  new_form = names_form h t new new_entry_lem named

  -- the inodes that a rename writes were in use
  touched_used : (i : ℕ) → Touched v new moved from into i → v.kind i ≢ 0
  touched_used i =
      let l = good.placed.entry in
      ⊎_elim (λ e. same (ok.old_target ∙ sym e) (l old ok.old_used).target.1)
      (⊎_elim (λ e. same (ok.old_parent ∙ sym e) (directory_used v _ (l old ok.old_used).parent).1)
      (⊎_elim (λ e. same (sym e) (directory_used v into ok.into_directory).1) (λ r. same r.1 (l new r.0).target.1)))
    where
      same : {k : ℕ} → k ≡ i → v.kind k ≢ 0 → v.kind i ≢ 0
      same e u z = u (ap v.kind e ∙ z)

  links_kept : (i : ℕ) → i < h.inodes → i ≢ from → i ≢ into → (Replaced v new i → ⊥) → w.links i ≡ v.links i
  unfolding view_of
  links_kept i l not-from not-into n = go (ℕ_discrete i moved)
    where
      go : Dec (i ≡ moved) → w.links i ≡ v.links i
      go (yes e) = rw e m.links
      go (no k) = ap inode_links (m.inode i l (⊎_elim k (⊎_elim not-from (⊎_elim not-into n))))

  pub written_moved : Moved v w old new moved from into called
  unfolding view_of
  written_moved = record {
    size = same_size h s t;
    entry = λ j l a b. same_entry h s t j (m.entry j l a b);
    cleared = rw m.cleared (get_or-replicate h.width 4 0 0 (omega (arith, laid.width_least)));
    used = λ z. nonempty (sym new_entry_lem.name_length_lem ∙ z);
    parent = new_entry_lem.parent;
    target = new_entry_lem.target;
    name = new_entry_lem.name;
    freed = λ i l g. ap inode_kind (m.freed i l g);
    same = head_kept;
    reparented = m.reparented;
    field = m.field;
    parents = λ i _. m.parents i;
    replaced = λ i _. m.replaced i;
    links = links_kept;
    text = λ x l n. ap text_length (m.text x l n);
    text_freed = λ i g y. ap text_length (m.text_freed i g y);
    handle = λ n l. same_handle h s t n (m.handle n l);
  }

  -- each record is as before, or well formed
  inode_form : (i : ℕ) → i < h.inodes → InodeFormed h s t i
  inode_form i l = go (gone? v w new i)
    where
      go : Dec (Gone v w new i) → InodeFormed h s t i
      go (yes g) = inr (λ _. rw (m.freed i l g) (zeros_replicate 32 0 32 (omega arith)))
      go (no g) = head_form h s t i (m.head i l g) (λ z. m.inode i l (λ c. touched_used i c z))

  entry_form : (j : ℕ) → j < h.entries → EntryFormed h s t j
  entry_form j l = go (ℕ_discrete j old) (ℕ_discrete j new)
    where
      blank : zeros (entry_at h t old) 0 h.width ≡ true
      blank = rw m.cleared (zeros_replicate h.width 0 h.width (omega arith))

      go : Dec (j ≡ old) → Dec (j ≡ new) → EntryFormed h s t j
      go (yes e) k = inr ((λ _. rw e blank), λ n. absurd (n (rw e written_moved.cleared)))
      go (no n) (yes e) = inr ((λ z. absurd (written_moved.used (rw e at z))), λ _. rw e new_form)
      go (no n) (no k) = inl (m.entry j l n k)

  text_form : (x : ℕ) → x < h.texts → TextFormed h s t x
  text_form x l = go (gone? v w new (v.target new)) (kind? v (v.target new) 3) (ℕ_discrete (v.field (v.target new)) x)
    where
      go : Dec (Gone v w new (v.target new)) → Dec (IsSymlink v (v.target new)) → Dec (v.field (v.target new) ≡ x) → TextFormed h s t x
      go (yes g) (yes y) (yes e) = inr (blank_text h t x (rw e at (m.text_freed _ g y)))
      go (yes g) (yes y) (no e) = inl (m.text x l (λ i c _ z. e (ap v.field c.0.1 ∙ z)))
      go (yes g) (no y) e = inl (m.text x l (λ i c z _. y (rw c.0.1 z)))
      go (no g) y e = inl (m.text x l (λ i c _ _. g ((c.0.0, refl), ap (entries_of w) c.0.1 ∙ c.1)))

  pub records_formed : Formed h t
  records_formed = formed_changed h s t form inode_form entry_form text_form (λ n l. inl (m.handle n l))

  -- The bodies of the finished image are consistent.
  pub written_consistent : Bodies h t
  written_consistent = rename_consistent f ok written_moved records_formed
