-- What a change of an image leaves of the rules on tree and handles, whatever the call. Assumes nothing.
use Rattle.std.specs.Prelude.{◌≡◌, refl, ◌≢◌, ◌⊎◌, List, ℕ, ◌+◌, ◌<◌}
use Rattle.std.proofs.Common.{sym, ◌∙◌, inl, inr, ⊎_elim, arith}
use Rattle.seq.specs.Count.{Off, On, bits}
use Rattle.seq.proofs.CountLaws.{on_or_off}
use Rattle.seq.specs.Climb.{up}
use Rattle.seq.proofs.ClimbLaws.{still_leads}
use Rattle.seq.proofs.ClimbWays.{up_in}
use Rattle.layout.specs.View.{View}
use Rattle.tree.specs.Tree.{holds_directory, child_directories}
use Rattle.edits.specs.Kinds.{IsDirectory, IsUsed, EntryUsed, HandleOpen}
use Rattle.edits.proofs.KindsLaws.{directory_used, either?}
use Rattle.edits.specs.ConsistentView.{EntryLinked, Placed, ConsistentView}
use Rattle.edits.proofs.ConsistentViewLaws.{parent_directory_lem}
use Rattle.edits.specs.Edit.{SameInode, SameHandle, SameSize}
use Rattle.edits.proofs.EditLaws.{was, entry_was, entry_agrees, linked_kept, children_edited}
use Rattle.edits.specs.InodeChange.{InodeChange}

module _ {v w : View} {slots : List ℕ} {Gone Made Reparented : ℕ → Type 0} (c : InodeChange v w slots Gone Made Reparented) where
  pub inode_below : (i : ℕ) → i < w.inodes → i < v.inodes
  inode_below i l = omega (arith, c.edit.size)

  -- what is in use now was not freed, what was in use before is not made
  pub not_gone : (i : ℕ) → IsUsed w i → Gone i → ⊥
  not_gone i (l, u) g = u (c.gone i (inode_below i l) g)

  not_made : (i : ℕ) → v.kind i ≢ 0 → Made i → ⊥
  not_made i u m = u (c.made i m)

  -- so it is kept
  pub same_was : (i : ℕ) → IsUsed w i → (Made i → ⊥) → SameInode v w i
  same_was i u m = c.same i (inode_below i u.0) (not_gone i u) m

  pub same_is : (i : ℕ) → IsUsed v i → (Gone i → ⊥) → SameInode v w i
  same_is i u g = c.same i u.0 g (not_made i u.1)

  module _ (good : ConsistentView v) where
    -- an entry that was not written names what it named
    module _ (j : ℕ) (off : Off j slots) (used : EntryUsed v j) where
      parent_kept : Gone (v.parent j) → ⊥
      parent_kept g = (c.unnamed _ g j (entry_agrees c.edit j off used)).0 (c.edit.entry j used.0 off).parent

      target_kept : Gone (v.target j) → ⊥
      target_kept g = (c.unnamed _ g j (entry_agrees c.edit j off used)).1 (c.edit.entry j used.0 off).target

      entry_kept : EntryLinked w j
      entry_kept =
          let l = good.placed.entry j used in
          linked_kept c.edit j used.0 off l
          (same_is _ (directory_used v _ l.parent) parent_kept)
          (same_is _ l.target target_kept)
          (λ d. c.field _ d.0 target_kept (not_made _ l.target.1) (λ r. c.reparented _ r j off used refl))

    -- rules 21 to 23, 29 and 35: every entry is good if those that were written are
    pub entry_changed : ((j : ℕ) → On j slots → EntryUsed w j → EntryLinked w j) → (j : ℕ) → EntryUsed w j → EntryLinked w j
    entry_changed written j u = ⊎_elim (λ on. written j on u) (λ off. entry_kept j off (entry_was c.edit j off u)) (on_or_off j slots)

    -- rule 31: the child directories of directory d
    pub children_changed : (d : ℕ) → child_directories w d + bits (holds_directory v d) slots ≡ child_directories v d + bits (holds_directory w d) slots
    children_changed = children_edited c.edit (λ j off u. (same_is _ (good.placed.entry j u).target (target_kept j off u)).kind)

    -- rule 30: the old way up from a new parent meets no directory that got another parent
    pub leads_changed : Placed w
        → ((i : ℕ) → IsDirectory w i → Made i ⊎ Reparented i → IsDirectory v (w.field i) × ((k : ℕ) → Reparented (up v.field k (w.field i)) → ⊥))
        → (i : ℕ) → IsDirectory w i → (k : ℕ) × (up w.field k i ≡ 0)
    leads_changed placed clear =
        still_leads (IsDirectory w) (λ i. Made i ⊎ Reparented i) (λ i. either? (c.made? i) (c.reparented? i)) v.field w.field 0
        (parent_directory_lem w placed)
        (λ i d n. c.field i (inode_below i d.0) (not_gone i (directory_used w i d)) (λ m. n (inl m)) (λ r. n (inr r)))
        (λ i d n. good.leads i (was c.edit i 2 (same_was i (directory_used w i d) (λ m. n (inl m))).kind d))
        (λ i d h k. ⊎_elim (not_made _ (directory_used v _ (way_directory k _ (clear i d h).0)).1) ((clear i d h).1 k))
      where
        way_directory : (k i : ℕ) → IsDirectory v i → IsDirectory v (up v.field k i)
        way_directory = up_in (IsDirectory v) v.inodes (λ _ x. x.0) v.field (parent_directory_lem v good.placed)

    -- rule 40: an open handle was open, on an inode that was not freed
    pub handles_changed : ((n : ℕ) → HandleOpen w n → HandleOpen v n × (w.opened n ≡ v.opened n) × (Gone (v.opened n) → ⊥))
        → (n : ℕ) → HandleOpen w n → IsUsed w (w.opened n)
    handles_changed kept n o =
        let (b, e, g) = kept n o in
        let u = good.handles n b in
        rw e (omega (arith, c.edit.size, u.0), λ z. u.1 (sym (same_is _ u g).kind ∙ z))

-- handles that stay, none of them open on an inode that was freed
pub handles_same : {v w : View} (Gone : ℕ → Type 0) → SameSize v w → ((n : ℕ) → n < v.handles → SameHandle v w n)
    → ((n : ℕ) → HandleOpen v n → Gone (v.opened n) → ⊥)
    → (n : ℕ) → HandleOpen w n → HandleOpen v n × (w.opened n ≡ v.opened n) × (Gone (v.opened n) → ⊥)
handles_same {v} {w} Gone size same closed n (l, o) =
    let b : n < v.handles = omega (arith, size) in
    let s = same n b in
    let u : HandleOpen v n = (b, λ z. o (s.state ∙ z)) in
    (u, s.opened, closed n u)
