-- A change leaves a consistent view if what it wrote is good. Assumes nothing.
use Rattle.std.specs.Prelude.{◌≡◌, List, ℕ, ◌≤◌, ◌<◌}
use Rattle.std.proofs.Common.{◌∙◌, ⊎_elim, arith}
use Rattle.layout.specs.Limits.{link_limit, mode_limit}
use Rattle.layout.specs.View.{View}
use Rattle.tree.specs.Tree.{entries_of, child_directories}
use Rattle.edits.specs.Kinds.{IsKind, IsDirectory, IsUsed}
use Rattle.edits.proofs.KindsLaws.{directory_used, kind?}
use Rattle.edits.specs.ConsistentView.{Placed, Counted, ConsistentView}
use Rattle.edits.proofs.EditLaws.{kept, was, entries_edited, distinct_edited}
use Rattle.edits.proofs.TextChangeLaws.{texts_changed}
use Rattle.edits.specs.Settled.{SameEntries, SameChildren, Settled}
use Rattle.edits.specs.InodeChange.{InodeChange}
use Rattle.edits.proofs.InodeChangeLaws.{inode_below, not_gone, same_was, same_is, entry_changed, children_changed, leads_changed, handles_changed}

module _ {v w : View} {slots : List ℕ} {Gone Made Reparented : ℕ → Type 0} (c : InodeChange v w slots Gone Made Reparented) (good : ConsistentView v)
    (o : Settled v w slots Gone Made Reparented) where
  same_entries : (i : ℕ) → SameEntries v w slots i → entries_of w i ≡ entries_of v i
  same_entries i e = omega (arith, entries_edited c.edit i)

  same_children : (d : ℕ) → SameChildren v w slots d → child_directories w d ≡ child_directories v d
  same_children d e = omega (arith, children_changed c good d)

  placed : Placed w
  placed = record {
    top = c.field 0 good.placed.root.0 c.root.0 (λ m. root_used.1 (c.made 0 m)) c.root.1 ∙ good.placed.top;
    root = kept c.edit 0 2 (same_is c 0 root_used c.root.0).kind good.placed.root;
    entry = entry_changed c good o.written;
    one_entry = λ i d n. ⊎_elim (λ e. e) (λ b. same_entries i b.1 ∙ good.placed.one_entry i b.0 n) (o.one_entry i d n);
  }
    where
      root_used : IsUsed v 0
      root_used = directory_used v 0 good.placed.root

  kind : (i : ℕ) → i < w.inodes → w.kind i ≤ 3
  kind i l = go (c.gone? i) (c.made? i)
    where
      b : i < v.inodes
      b = inode_below c i l

      go : Dec (Gone i) → Dec (Made i) → w.kind i ≤ 3
      go (yes g) m = omega (arith, c.gone i b g)
      go (no g) (yes m) = o.made_kind i m
      go (no g) (no m) = rw (c.same i b g m).kind (good.counted.kind i b)

  plain : (i : ℕ) → IsKind w i 1 → w.field i ≡ 0
  plain i f = go (c.made? i)
    where
      used : IsUsed w i
      used = (f.0, λ z. omega (arith, f.1))

      go : Dec (Made i) → w.field i ≡ 0
      go (yes m) = o.made_plain i m f.1
      go (no m) =
          let b = was c.edit i 1 (same_was c i used m).kind f in
          c.field i b.0 (not_gone c i used) m (λ r. omega (arith, b.1, (c.directory i r).1)) ∙ good.counted.plain i b

  mode : (i : ℕ) → IsUsed w i → w.mode i < mode_limit
  mode i u = go (c.made? i)
    where
      go : Dec (Made i) → w.mode i < mode_limit
      go (yes m) = o.made_mode i m
      go (no m) =
          let s = same_was c i u m in
          rw s.mode (good.counted.mode i (inode_below c i u.0, λ z. u.1 (s.kind ∙ z)))

  within : (i : ℕ) → IsUsed w i → w.links i ≤ link_limit
  within i u = go (kind? w i 2)
    where
      go : Dec (IsDirectory w i) → w.links i ≤ link_limit
      go (yes d) =
          ⊎_elim (λ b. omega (arith, b.0, b.1)) (λ b. omega (arith, b.1, good.counted.within i (directory_used v i b.0)))
          (o.directory_count_lem i d)
      go (no n) =
          ⊎_elim (λ b. omega (arith, b.0, b.2)) (λ b. omega (arith, b.1, good.counted.within i (b.0.0, b.0.1)))
          (o.leaf_count_lem i (u.0, u.1, λ e. n (u.0, e)))

  counted : Counted w
  counted = record {
    kind = kind;
    plain = plain;
    mode = mode;
    children = λ d h.
        ⊎_elim (λ b. b.0) (λ b. omega (arith, b.1, same_children d b.2, good.counted.children d b.0)) (o.directory_count_lem d h);
    entries = λ i l. ⊎_elim (λ b. b.0) (λ b. omega (arith, b.1, same_entries i b.2, good.counted.entries i b.0)) (o.leaf_count_lem i l);
    linked = λ i l. ⊎_elim (λ b. omega (arith, b.0, b.1)) (λ b. omega (arith, b.1, good.counted.linked i b.0)) (o.leaf_count_lem i l);
    within = within;
  }

  -- The view after the change is consistent.
  pub change_consistent : ConsistentView w
  change_consistent = record {
    placed = placed;
    counted = counted;
    distinct = distinct_edited c.edit good.distinct o.named;
    leads = leads_changed c good placed o.clear;
    texts = texts_changed c good o.texts;
    handles = handles_changed c good o.handles;
  }
