-- The finished image of an exchange in bytes: its records are well formed, and its bodies are consistent. Assumes nothing.
use Rattle.std.specs.Prelude.{◌≡◌, ◌≢◌, List, ℕ, ◌<◌}
use Rattle.std.proofs.Math.Path.{sym, ap}
use Rattle.std.proofs.Common.{◌∙◌, subst, inl}
use Rattle.std.proofs.Math.Logic.{inr}
use Rattle.std.proofs.Math.Decide.{ℕ_discrete}
use Rattle.layout.specs.declared.Shape.{Shape}
use Rattle.layout.specs.Facts.{Laid}
use Rattle.layout.specs.Fields.{inode_links, text_length}
use Rattle.layout.specs.View.{View, view_of, inode_at, entry_at}
use Rattle.encode.specs.Facts.{Names}
use Rattle.encode.specs.Entry.{retargeted}
use Rattle.consistency.specs.RecordFacts.{Bodies}
use Rattle.edits.proofs.KindsLaws.{directory_used}
use Rattle.edits.specs.ConsistentView.{ConsistentView}
use Rattle.edits.specs.Exchanged.{Side, Exchangeable, Swapped, Exchanged}
use Rattle.edits.proofs.ExchangedLaws.{side_directory, side_used, exchanged_consistent}
use Rattle.edits.specs.Formed.{Formed, InodeFormed, EntryFormed}
use Rattle.edits.proofs.FormedLaws.{formed_changed}
use Rattle.edits.proofs.Bodies.{bodies_consistent, bodies_formed, consistent_bodies}
use Rattle.edits.proofs.PartlyWritten.{same_head, head_form, entry_itself, retargeted_names, names_form}
use Rattle.edits.proofs.WrittenLaws.{same_size, same_entry, same_handle}
use Rattle.edits.specs.ExchangeWritten.{SideWritten, ExchangeWritten}

-- one side: the slot with its new target, parent and name as they are
module _ {h : Shape} {s : List ℕ} {here inode own other there : ℕ} (laid : Laid h s) (f : Bodies h s) (a : Side (view_of h s) here inode own other there)
    (below : other < h.inodes) where
  pub side_names : Names (retargeted other (entry_at h s here)) h.width own other ((view_of h s).name here)
  side_names =
      subst (λ (p : ℕ). Names (retargeted other (entry_at h s here)) h.width p other ((view_of h s).name here)) a.parent
      (retargeted_names laid (bodies_formed f) here a.used other below)

  module _ {t : List ℕ} (m : SideWritten h s t here inode own other there) where
    slot_names : Names (entry_at h t here) h.width own other ((view_of h s).name here)
    slot_names = rw m.slot side_names

    slot_used : (view_of h t).name_length here ≢ 0
    unfolding view_of
    slot_used z = a.used.1 ((entry_itself laid (bodies_formed f) here a.used).name_length_lem ∙ sym slot_names.name_length_lem ∙ z)

    slot_form : EntryFormed h s t here
    unfolding view_of
    slot_form = inr ((λ z. absurd (slot_used z)), λ _. names_form h t here slot_names ((bodies_formed f).entry here a.used.0 a.used.1).name)

    side_swapped : Swapped (view_of h s) (view_of h t) here inode own other there
    unfolding view_of
    side_swapped = record {
      used = slot_used;
      parent = slot_names.parent;
      target = slot_names.target;
      name = slot_names.name;
      reparented = m.reparented;
      recounted = m.recounted;
    }

module _ {h : Shape} {s t : List ℕ} {old new moved from replaced into : ℕ} (laid : Laid h s) (f : Bodies h s)
    (ok : Exchangeable (view_of h s) old new moved from replaced into) (m : ExchangeWritten h s t old new moved from replaced into) where
  abbrev v : View
  v = view_of h s

  abbrev w : View
  w = view_of h t

  good : ConsistentView v
  good = bodies_consistent f

  moved_below : moved < h.inodes
  unfolding view_of
  moved_below = (side_used good ok.first).0

  replaced_below : replaced < h.inodes
  unfolding view_of
  replaced_below = (side_used good ok.second).0

  links_kept : (i : ℕ) → i < h.inodes → i ≢ from → i ≢ into → w.links i ≡ v.links i
  unfolding view_of
  links_kept i l not-from not-into = go (ℕ_discrete i moved) (ℕ_discrete i replaced)
    where
      go : Dec (i ≡ moved) → Dec (i ≡ replaced) → w.links i ≡ v.links i
      go (yes e) z = rw e m.first.links
      go (no n) (yes e) = rw e m.second.links
      go (no n) (no k) = ap inode_links (m.inode i l n not-from not-into k)

  pub written_exchanged : Exchanged v w old new moved from replaced into
  unfolding view_of
  written_exchanged = record {
    first = side_swapped laid f ok.first replaced_below m.first;
    second = side_swapped laid f ok.second moved_below m.second;
    size = same_size h s t;
    entry = λ j l a b. same_entry h s t j (m.entry j l a b);
    same = λ i l. same_head h s t i (m.head i l);
    field = m.field;
    links = links_kept;
    text = λ x l. ap text_length (m.text x l);
    handle = λ n l. same_handle h s t n (m.handle n l);
  }

  -- each record is as before, or well formed; the inodes that an exchange writes were in use
  inode_form : (i : ℕ) → i < h.inodes → InodeFormed h s t i
  inode_form i l = head_form h s t i (m.head i l) free
    where
      free : v.kind i ≡ 0 → inode_at h t i ≡ inode_at h s i
      free z =
          m.inode i l (λ e. (side_used good ok.first).1 (rw e at z)) (λ e. (directory_used v from (side_directory good ok.first)).1 (rw e at z))
          (λ e. (directory_used v into (side_directory good ok.second)).1 (rw e at z)) (λ e. (side_used good ok.second).1 (rw e at z))

  entry_form : (j : ℕ) → j < h.entries → EntryFormed h s t j
  entry_form j l = go (ℕ_discrete j old) (ℕ_discrete j new)
    where
      go : Dec (j ≡ old) → Dec (j ≡ new) → EntryFormed h s t j
      go (yes e) z = rw e (slot_form laid f ok.first replaced_below m.first)
      go (no n) (yes e) = rw e (slot_form laid f ok.second moved_below m.second)
      go (no n) (no k) = inl (m.entry j l n k)

  pub exchange_formed : Formed h t
  exchange_formed = formed_changed h s t (bodies_formed f) inode_form entry_form (λ x l. inl (m.text x l)) (λ n l. inl (m.handle n l))

  -- The bodies of the finished image are consistent.
  pub exchange_written_consistent : Bodies h t
  exchange_written_consistent = consistent_bodies exchange_formed (exchanged_consistent good ok written_exchanged)
