-- The bodies of a consistent image, in two halves, both ways: each record is well formed, and the view is consistent. Assumes nothing.
use Rattle.std.specs.Prelude.{◌≡◌, refl, ◌≢◌, List, ℕ, ◌≤◌, ◌<◌, eqb}
use Rattle.std.proofs.Common.{sym}
use Rattle.std.proofs.Math.Bool.{true}
use Rattle.std.proofs.Math.Decide.{ℕ_discrete, dec_lt}
use native.Mathlib.Omega.{arith}
use borrow.Author.Tests.{eqb-true, eqb-false, eq-eqb, ne_eqb, not-true, not-false}
use Rattle.seq.specs.Truth.{not_both, refuted, and_left, and_right, and_both}
use Rattle.seq.proofs.SearchLaws.{any_not, any_false, any_hit, any_at}
use Rattle.seq.specs.Climb.{up}
use Rattle.layout.specs.declared.Shape.{Shape}
use Rattle.layout.specs.Limits.{link_limit, mode_limit}
use Rattle.layout.specs.View.{View, view_of, is_symlink}
use Rattle.tree.specs.Tree.{has_text, text_shared}
use Rattle.tree.proofs.TreeLaws.{reaches_goal}
use Rattle.tree.specs.InodeFacts.{Leaf, File, Directory, Symlink, Inode}
use Rattle.consistency.specs.Sound.{text_linked}
use Rattle.consistency.specs.RecordFacts.{Linked, Entry, Text, Handle, Bodies}
use Rattle.edits.specs.Kinds.{IsDirectory, IsSymlink, IsUsed, IsLeaf, EntryUsed, TextUsed, HandleOpen}
use Rattle.edits.proofs.Tests.{kind_is, kind_test, no_kind, not_kind, used_is, is_used_lem, clash_is, is_clash}
use Rattle.edits.proofs.WayUp.{leads_way, way_leads}
use Rattle.edits.specs.ConsistentView.{EntryLinked, Placed, Counted, Texts, ConsistentView}
use Rattle.edits.proofs.ConsistentViewLaws.{parent_directory_lem}
use Rattle.edits.specs.Formed.{Formed}

-- the types of an inode in use
by_kind : {A : Type 0} (k : ℕ) → k ≤ 3 → k ≢ 0 → (k ≡ 1 → A) → (k ≡ 2 → A) → (k ≡ 3 → A) → A
by_kind {A} k l n a b c = go (ℕ_discrete k 1) (ℕ_discrete k 2)
  where
    go : Dec (k ≡ 1) → Dec (k ≡ 2) → A
    go (yes e) q = a e
    go (no x) (yes e) = b e
    go (no x) (no y) = c (omega arith)

-- numbers of which neither is the smaller one
no_smaller : (i k : ℕ) → (i < k → ⊥) → (k < i → ⊥) → i ≡ k
no_smaller i k f g = go (ℕ_discrete i k) (dec_lt i k)
  where
    go : Dec (i ≡ k) → Dec (i < k) → i ≡ k
    go (yes e) l = e
    go (no n) (yes l) = absurd (f l)
    go (no n) (no l) = absurd (g (omega arith))

-- from the bodies
module _ {h : Shape} {s : List ℕ} (f : Bodies h s) where
  abbrev v : View
  v = view_of h s

  linked : (j : ℕ) → EntryUsed v j → EntryLinked v j
  unfolding view_of
  linked j (l, u) =
      let e = ((f.entry j l).used (rw (ne_eqb _ _ u))).linked in
      record {
        below_root = e.below_root;
        parent = kind_is v _ 2 e.parent;
        target = used_is v _ e.target;
        above = λ d. e.up (kind_test v _ 2 d);
        system = λ n. e.system (no_kind v _ 2 n);
      }

  directory : (i : ℕ) → IsDirectory v i → Directory v i
  unfolding view_of
  directory i (l, e) = (f.inode i l).directory e

  leaf : (i : ℕ) → IsLeaf v i → Leaf v i
  unfolding view_of
  leaf i (l, n, d) =
      by_kind _ (f.inode i l).kind n (λ e. ((f.inode i l).file e).leaf) (λ e. absurd (d e)) (λ e. ((f.inode i l).symlink e).leaf)

  symlink : (i : ℕ) → IsSymlink v i → Symlink v i
  unfolding view_of
  symlink i (l, e) = (f.inode i l).symlink e

  mode : (i : ℕ) → IsUsed v i → v.mode i < mode_limit
  unfolding view_of
  mode i (l, n) =
      let o = f.inode i l in
      by_kind _ o.kind n (λ e. (o.file e).leaf.mode) (λ e. (o.directory e).mode) (λ e. (o.symlink e).leaf.mode)

  within : (i : ℕ) → IsUsed v i → v.links i ≤ link_limit
  unfolding view_of
  within i (l, n) =
      let o = f.inode i l in
      by_kind _ o.kind n (λ e. (o.file e).leaf.within) (λ e. (o.directory e).within) (λ e. (o.symlink e).leaf.within)

  placed : Placed v
  placed = record {
    top = (directory 0 root).own_parent refl;
    root = root;
    entry = linked;
    one_entry = λ i d n. (directory i d).one_entry n;
  }
    where
      root : IsDirectory v 0
      root = kind_is v 0 2 f.root

  counted : Counted v
  unfolding view_of
  counted = record {
    kind = λ i l. (f.inode i l).kind;
    plain = λ i k. ((f.inode i k.0).file k.1).plain;
    mode = mode;
    children = λ i d. (directory i d).counted;
    entries = λ i l. (leaf i l).counted;
    linked = λ i l. (leaf i l).linked;
    within = within;
  }

  distinct : (i j : ℕ) → EntryUsed v i → EntryUsed v j → v.parent i ≡ v.parent j → v.name i ≡ v.name j → i ≡ j
  unfolding view_of
  distinct i j (li, ui) (lj, uj) p n =
      no_smaller i j
      (λ l. not_both _ (is_clash v i j ui uj p n) (f.distinct i j l lj))
      (λ l. not_both _ (is_clash v j i uj ui (sym p) (sym n)) (f.distinct j i l li))

  leads : (i : ℕ) → IsDirectory v i → (k : ℕ) × (up v.field k i ≡ 0)
  leads i d = go (ℕ_discrete i 0)
    where
      go : Dec (i ≡ 0) → (k : ℕ) × (up v.field k i ≡ 0)
      go (yes e) = leads_way v 0 0 i (reaches_goal v 0 0 i e)
      go (no n) = leads_way v 0 v.inodes i ((directory i d).leads_up_lem n)

  own : (i k : ℕ) → IsSymlink v i → IsSymlink v k → v.field i ≡ v.field k → i ≡ k
  unfolding text_shared
  own i k si sk e =
      no_smaller i k
      (λ l. not_both _ (and_both _ _ (kind_test v i 3 si) (eq-eqb _ _ e)) (any_not _ k (symlink k sk).own i l))
      (λ l. not_both _ (and_both _ _ (kind_test v k 3 sk) (eq-eqb _ _ (sym e))) (any_not _ i (symlink i si).own k l))

  owned : (t : ℕ) → TextUsed v t → (i : ℕ) × IsSymlink v i × (v.field i ≡ t)
  unfolding text_linked view_of
  owned t (l, u) =
      let (i, b, e) = any_at (has_text v t) h.inodes ((f.text t l).linked (rw (ne_eqb _ _ u))) in
      (i, kind_is v i 3 (and_left (is_symlink v i) _ e), eqb-true _ _ (and_right (is_symlink v i) (eqb (v.field i) t) e))

  texts : Texts v
  texts = record {
    used = λ i k. ((symlink i k).text, eqb-false _ _ (not-true _ (symlink i k).used));
    own = own;
    owned = owned;
  }

  handles : (n : ℕ) → HandleOpen v n → IsUsed v (v.opened n)
  unfolding view_of
  handles n o = used_is v _ ((f.handle n o.0).opened o.1).used

  pub bodies_consistent : ConsistentView v
  bodies_consistent = record { placed = placed; counted = counted; distinct = distinct; leads = leads; texts = texts; handles = handles }

  pub bodies_formed : Formed h s
  unfolding view_of
  bodies_formed = record {
    free_inode = λ i l. (f.inode i l).free;
    free_entry = λ j l e. (f.entry j l).free (rw (eq-eqb _ _ e));
    entry = λ j l n.
        let u = (f.entry j l).used (rw (ne_eqb _ _ n)) in
        record { short = u.short; padded = u.padded; filled = u.filled; name = u.name };
    text = λ t l. let u = f.text t l in record { short = u.short; filled = u.filled; bytes = u.bytes };
    handle = λ n l.
        let u = f.handle n l in
        record { state = u.state; second = λ o. (u.opened o).second; rest = λ o. (u.opened o).rest; closed = u.closed };
  }

-- and back
module _ {h : Shape} {s : List ℕ} (form : Formed h s) (good : ConsistentView (view_of h s)) where
  abbrev w : View
  w = view_of h s

  is_leaf : (i : ℕ) → IsLeaf w i → Leaf w i
  is_leaf i l = record {
    mode = good.counted.mode i (l.0, l.1);
    within = good.counted.within i (l.0, l.1);
    linked = good.counted.linked i l;
    counted = good.counted.entries i l;
  }

  is_file : (i : ℕ) → i < w.inodes → w.kind i ≡ 1 → File w i
  is_file i l e = record { leaf = is_leaf i (l, (λ z. omega arith), λ z. omega arith); plain = good.counted.plain i (l, e) }

  is_directory_lem : (i : ℕ) → IsDirectory w i → Directory w i
  is_directory_lem i d =
      let u : IsUsed w i = (d.0, λ z. omega (arith, d.1)) in
      record {
        mode = good.counted.mode i u;
        within = good.counted.within i u;
        counted = good.counted.children i d;
        own_parent = λ e. rw e good.placed.top;
        one_entry = good.placed.one_entry i d;
        leads_up_lem = λ _. let (k, e) = good.leads i d in way_leads w (parent_directory_lem w good.placed) 0 i k d e;
      }

  is_symlink_lem : (i : ℕ) → IsSymlink w i → Symlink w i
  unfolding text_shared
  is_symlink_lem i l =
      let t = good.texts.used i l in
      record {
        leaf = is_leaf i (l.0, (λ z. omega (arith, l.1)), λ z. omega (arith, l.1));
        text = t.0;
        used = rw (ne_eqb _ _ t.1);
        own = any_false _ i (λ k m. refuted _ (λ e. other k m
            (good.texts.own k i (kind_is w k 3 (and_left (is_symlink w k) _ e)) l (eqb-true _ _ (and_right (is_symlink w k) (eqb (w.field k) (w.field i)) e)))));
      }
    where
      other : (k : ℕ) → k < i → k ≢ i
      other k m e = omega arith

  is_inode : (i : ℕ) → i < h.inodes → Inode h s i
  unfolding view_of
  is_inode i l = record {
    kind = good.counted.kind i l;
    free = form.free_inode i l;
    file = is_file i l;
    directory = λ e. is_directory_lem i (l, e);
    symlink = λ e. is_symlink_lem i (l, e);
  }

  is_linked : (j : ℕ) → EntryUsed w j → Linked w j
  is_linked j u =
      let l = good.placed.entry j u in
      record {
        parent = kind_test w _ 2 l.parent;
        target = is_used_lem w _ l.target;
        below_root = l.below_root;
        up = λ d. l.above (kind_is w _ 2 d);
        system = λ n. l.system (not_kind w _ 2 n);
      }

  is_entry : (j : ℕ) → j < h.entries → Entry h s j
  unfolding view_of
  is_entry j l = record {
    free = λ u. form.free_entry j l (eqb-true _ _ (not-false _ u));
    used = λ u.
        let n : w.name_length j ≢ 0 = eqb-false _ _ (not-true _ u) in
        let e = form.entry j l n in
        record { short = e.short; padded = e.padded; filled = e.filled; name = e.name; linked = is_linked j (l, n) };
  }

  is_text : (t : ℕ) → t < h.texts → Text h s t
  unfolding view_of text_linked
  is_text t l =
      let e = form.text t l in
      record { short = e.short; filled = e.filled; bytes = e.bytes; linked = λ u. owner (eqb-false _ _ (not-true _ u)) }
    where
      owner : w.text_length t ≢ 0 → text_linked w t ≡ true
      owner n =
          let (i, k, e) = good.texts.owned t (l, n) in
          any_hit (has_text w t) h.inodes i k.0 (and_both _ _ (kind_test w i 3 k) (eq-eqb _ _ e))

  is_handle : (n : ℕ) → n < h.handles → Handle h s n
  unfolding view_of
  is_handle n l =
      let e = form.handle n l in
      record {
        state = e.state;
        closed = e.closed;
        opened = λ o. record { second = e.second o; rest = e.rest o; used = is_used_lem w _ (good.handles n (l, o)) };
      }

  pub consistent_bodies : Bodies h s
  unfolding view_of
  consistent_bodies = record {
    root = kind_test w 0 2 good.placed.root;
    inode = is_inode;
    entry = is_entry;
    distinct = λ i j l m. refuted _ (λ e. let (a, b, p, n) = clash_is w i j e in other i j l (good.distinct i j (omega arith, a) (m, b) p n));
    text = is_text;
    handle = is_handle;
  }
    where
      other : (i j : ℕ) → i < j → i ≢ j
      other i j l e = omega arith
