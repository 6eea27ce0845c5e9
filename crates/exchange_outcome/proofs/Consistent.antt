-- The finished image of an exchange is consistent: check answers 0 on it. Assumes nothing.
use Rattle.std.specs.Prelude.{◌≡◌, true, ℕ, ◌+◌, ◌<◌}
use Rattle.std.proofs.Math.Path.{sym, ap}
use Rattle.std.proofs.Common.{◌∙◌, arith}
use mathlib.Core.List.{List}
use Rattle.std.proofs.Math.Decide.{ℕ_discrete}
use Rattle.seq.specs.Bytes.{part}
use Rattle.seq.proofs.SearchLaws.{count_le}
use Rattle.layout.specs.declared.Shape.{Shape}
use Rattle.layout.specs.Fields.{inode_field}
use Rattle.layout.specs.View.{View, view_of, inode_at, entry_at}
use Rattle.encode.specs.Facts.{Says}
use Rattle.encode.specs.Entry.{retargeted}
use Rattle.tree.specs.Tree.{child_directories}
use Rattle.consistency.specs.Sound.{journal_clear}
use Rattle.consistency.specs.Consistent.{consistent, check_number}
use Rattle.consistency.proofs.ConsistentLaws.{consistent_checked}
use Rattle.consistency.specs.RecordFacts.{Bodies}
use Rattle.edits.specs.Kinds.{IsDirectory}
use Rattle.edits.proofs.PartlyWritten.{same_head}
use Rattle.edits.proofs.WrittenLaws.{same_size, same_entry}
use Rattle.edits.specs.ExchangeWritten.{SideWritten, ExchangeWritten}
use Rattle.edits.proofs.ExchangeWrittenLaws.{exchange_written_consistent}
use Rattle.recounts.specs.declared.Move.{Move}
use Rattle.results.specs.Results.{moved_after}
use Rattle.exchanges.specs.Exchange.{holds_exchanged, children_exchanged, parent_after}
use Rattle.afresh.specs.ExchangeRecount.{OffSlots, GoneOver}
use Rattle.afresh.proofs.ExchangeRecountLaws.{exchanged_agree, exchanged_made}
use Rattle.outcome.proofs.Whole.{consistent_of}
use Rattle.outcome.proofs.Inodes.{moved_says, moved_leaf_says, moved_links, moved_head, parent_says}
use Rattle.exchange_outcome.specs.Outcome.{exchanged}
use Rattle.exchange_outcome.specs.Paired.{Paired}
use Rattle.exchange_outcome.proofs.PairedLaws.{in_image, turned}
use Rattle.exchange_outcome.specs.Slot.{SlotNames}
use Rattle.exchange_outcome.proofs.SlotLaws.{slot_after}
use Rattle.exchange_outcome.proofs.Finished.{exchanged_ok, old_written, new_written, moved_written, replaced_written, from_written, into_written, entry_kept, inode_kept, text_kept, handle_kept, journal_kept}

-- what is written of one side, in an image t that may be the finished one of the exchange as either side sees it
module _ {h : Shape} {s : List ℕ} {m : Move} (c : Paired h s m) (t : List ℕ) (written : inode_at h t m.moved ≡ moved_after h s m) where
  side_head : part (inode_at h t m.moved) 0 12 ≡ part (inode_at h s m.moved) 0 12
  side_head = moved_head c.read.laid t m c.time (in_image c).moved written (in_image c).into

  side_field : (IsDirectory (view_of h s) m.moved → ⊥) → (view_of h t).field m.moved ≡ (view_of h s).field m.moved
  unfolding view_of
  side_field n = (moved_leaf_says c.read.laid t m c.time (in_image c).moved written n).field

  side_written : entry_at h t m.old ≡ retargeted m.replaced (entry_at h s m.old)
      → (view_of h t).links m.from ≡ 2 + child_directories (view_of h t) m.from
      → SideWritten h s t m.old m.moved m.from m.replaced m.into
  unfolding view_of
  side_written slot counted = record {
    slot = slot;
    reparented = λ d. (moved_says c.read.laid t m c.time (in_image c).moved written (in_image c).into d).field;
    links = moved_links c.read.laid t m c.time (in_image c).moved written (in_image c).into;
    recounted = counted;
  }

gone_over : {h : Shape} {s x : List ℕ} {m : Move} → SlotNames h s x m m.moved → GoneOver (view_of h x) m
gone_over n = record { used = n.used.1; parent = n.parent; target = n.target }

module _ {h : Shape} {s : List ℕ} {m : Move} (c : Paired h s m) where
  abbrev t : List ℕ
  t = exchanged h s m

  abbrev v : View
  v = view_of h s

  abbrev w : View
  w = view_of h t

  -- ---- each inode

  children_small : (i : ℕ) → 2 + children_exchanged v m i < 65536
  unfolding children_exchanged view_of
  children_small i = omega (arith, count_le (holds_exchanged v m i) h.entries, c.read.laid.entries_most)

  parent : (i : ℕ) → i < h.inodes → inode_at h t i ≡ parent_after h s m i
      → Says (inode_at h s i) (inode_at h t i) (2 + children_exchanged v m i) (v.field i) m.now m.now
  parent i l e = parent_says c.read.laid t i _ m.now c.time l (children_small i) e

  -- its first twelve bytes are as before, and its field too unless it is a directory that changed sides
  inode_says : (i : ℕ) → i < h.inodes
      → (part (inode_at h t i) 0 12 ≡ part (inode_at h s i) 0 12)
      × ((i ≡ m.moved → IsDirectory v m.moved → ⊥) → (i ≡ m.replaced → IsDirectory v m.replaced → ⊥) → w.field i ≡ v.field i)
  unfolding view_of
  inode_says i l = go (ℕ_discrete i m.moved) (ℕ_discrete i m.replaced) (ℕ_discrete i m.from) (ℕ_discrete i m.into)
    where
      go : Dec (i ≡ m.moved) → Dec (i ≡ m.replaced) → Dec (i ≡ m.from) → Dec (i ≡ m.into)
          → (part (inode_at h t i) 0 12 ≡ part (inode_at h s i) 0 12)
          × ((i ≡ m.moved → IsDirectory v m.moved → ⊥) → (i ≡ m.replaced → IsDirectory v m.replaced → ⊥) → w.field i ≡ v.field i)
      go (yes e) b p q = (rw e (side_head c t (moved_written c)), λ f _. rw e (side_field c t (moved_written c) (f e)))
      go (no a) (yes e) p q = (rw e (side_head (turned c) t (replaced_written c)), λ _ f. rw e (side_field (turned c) t (replaced_written c) (f e)))
      go (no a) (no b) (yes e) q = let x = parent m.from (in_image c).from (from_written c) in (rw e x.head.front, λ _ _. rw e x.field)
      go (no a) (no b) (no p) (yes e) = let x = parent m.into (in_image c).into (into_written c) in (rw e x.head.front, λ _ _. rw e x.field)
      go (no a) (no b) (no p) (no q) =
          let k = inode_kept c i l a p q b in
          (ap (λ (r : List ℕ). part r 0 12) k, λ _ _. ap inode_field k)

  -- no inode changes its type
  pub kind_kept : (i : ℕ) → i < h.inodes → w.kind i ≡ v.kind i
  kind_kept i l = (same_head h s t i (inode_says i l).0).kind

  -- ---- the counts

  -- what is counted on the image before, as exchanged, is what the finished image has
  pub children_exchanged_lem : (d : ℕ) → children_exchanged v m d ≡ child_directories w d
  unfolding view_of
  children_exchanged_lem d =
      let off : OffSlots v w m = record { size = same_size h s t; entry = λ j l a b. same_entry h s t j (entry_kept c j l a b); kind = kind_kept } in
      sym (exchanged_made (gone_over (slot_after c t (new_written c))) (gone_over (slot_after (turned c) t (old_written c))) d ∙ exchanged_agree off d)

  parent_count : (i : ℕ) → i < h.inodes → inode_at h t i ≡ parent_after h s m i → w.links i ≡ 2 + child_directories w i
  unfolding view_of
  parent_count i l e = (parent i l e).links ∙ omega (arith, children_exchanged_lem i)

  -- ---- the records as an edit has them

  pub exchanged_written : ExchangeWritten h s t m.old m.new m.moved m.from m.replaced m.into
  exchanged_written = record {
    first = side_written c t (moved_written c) (old_written c) (parent_count m.from (in_image c).from (from_written c));
    second = side_written (turned c) t (replaced_written c) (new_written c) (parent_count m.into (in_image c).into (into_written c));
    entry = entry_kept c;
    inode = inode_kept c;
    head = λ i l. (inode_says i l).0;
    field = λ i l. (inode_says i l).1;
    text = text_kept c;
    handle = handle_kept c;
  }

  -- ---- consistent

  pub exchanged_bodies : Bodies h t
  exchanged_bodies = exchange_written_consistent c.read.laid c.bodies c.allowed exchanged_written

  pub exchanged_clear : journal_clear h t ≡ true
  unfolding journal_clear
  exchanged_clear = rw (journal_kept c) c.clear

  pub before_consistent : consistent s ≡ true
  before_consistent = consistent_of c.read c.clear c.bodies

  pub exchange_consistent : consistent t ≡ true
  exchange_consistent = consistent_of (exchanged_ok c).read exchanged_clear exchanged_bodies

  -- The job check answers 0.
  pub exchange_checked : check_number t ≡ 0
  exchange_checked = consistent_checked t exchange_consistent
