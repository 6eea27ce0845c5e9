-- Where the new entry stands, the counts as edited are those of the entries with the old one cleared. Assumes nothing.
use Rattle.std.specs.Prelude.{◌≡◌, ◌≢◌, List, ℕ, ◌<◌}
use Rattle.std.proofs.Math.Path.{refl, ap}
use Rattle.std.proofs.Common.{sym, ◌∙◌, arith}
use Rattle.std.proofs.Math.Logic.{inl}
use Rattle.std.proofs.Math.Dec.{lit<}
use Rattle.std.proofs.lemmas.List.{length-replicate}
use Rattle.std.proofs.Math.ListN.{get_or-replicate}
use Rattle.layout.specs.declared.Shape.{Shape}
use Rattle.layout.specs.Place.{Key}
use Rattle.layout.specs.Facts.{Valid, Laid}
use Rattle.layout.specs.Record.{record_at}
use Rattle.layout.proofs.RecordLaws.{store_same, store_other}
use Rattle.layout.specs.Fields.{inode_kind, entry_parent, entry_target, entry_name_length}
use Rattle.layout.specs.View.{view_of, entry_at}
use Rattle.tree.specs.Tree.{entries_of, child_directories}
use Rattle.edits.proofs.WrittenLaws.{same_entry}
use Rattle.plan.specs.Write.{inode_key, entry_key}
use Rattle.plan.proofs.WriteLaws.{other_section, other_index}
use Rattle.recounts.specs.declared.Move.{Move}
use Rattle.recounts.specs.Recount.{entries_after, children_after}
use Rattle.results.specs.Results.{free_record}
use Rattle.afresh.specs.Recount.{Agrees, Made}
use Rattle.afresh.proofs.RecountLaws.{entries_agree, children_agree, entries_made, children_made}
use Rattle.afresh.specs.Cleared.{old_cleared, EntryStands}

module _ (h : Shape) (x : List ℕ) (m : Move) (laid : Laid h x) (below : m.old < h.entries) (differ : m.old ≢ m.new) (stands : EntryStands h x m) where
  old_valid : Valid h (entry_key m.old)
  old_valid = record { in_image = lit< tt; in_section = below }

  other : (k : Key) → Valid h k → k ≢ entry_key m.old → record_at h (old_cleared h x m) k.section k.index ≡ record_at h x k.section k.index
  other k v n = store_other h x (free_record h 1) (entry_key m.old) laid.long old_valid (length-replicate h.width 0) k v n

  entry_other : (j : ℕ) → j < h.entries → j ≢ m.old → entry_at h (old_cleared h x m) j ≡ entry_at h x j
  entry_other j l n = other (entry_key j) (record { in_image = lit< tt; in_section = l }) (other_index _ _ n)

  agrees : Agrees (view_of h x) (view_of h (old_cleared h x m)) m
  unfolding view_of
  agrees = record {
    size = record { inodes = refl; entries = refl; texts = refl; handles = refl };
    entry = λ j l n _. same_entry h x (old_cleared h x m) j (entry_other j l n);
    kind = λ i l. inl (ap inode_kind (other (inode_key i) (record { in_image = lit< tt; in_section = l }) (other_section _ _ (omega arith))));
  }

  made : Made (view_of h (old_cleared h x m)) m
  unfolding view_of
  made =
      let e = entry_other m.new stands.used.0 (λ z. differ (sym z)) in
      let gone : entry_at h (old_cleared h x m) m.old ≡ free_record h 1 =
      store_same h x (free_record h 1) (entry_key m.old) laid.long old_valid (length-replicate h.width 0) in
      record {
        cleared = ap entry_name_length gone ∙ get_or-replicate h.width 4 0 0 (omega (arith, laid.width_least));
        used = λ z. stands.used.1 (sym (ap entry_name_length e) ∙ z);
        parent = ap entry_parent e ∙ stands.parent;
        target = ap entry_target e ∙ stands.target;
      }

  pub entries_cleared : (i : ℕ) → entries_after (view_of h x) m i ≡ entries_of (view_of h (old_cleared h x m)) i
  entries_cleared i = sym (entries_made made i ∙ entries_agree agrees i)

  pub children_cleared : (d : ℕ) → children_after (view_of h x) m d ≡ child_directories (view_of h (old_cleared h x m)) d
  children_cleared d = sym (children_made made d ∙ children_agree agrees d)
