-- The new slot of an exchange, as before and as written: it names the replaced inode, and then the moved one. Assumes nothing.
use Rattle.std.specs.Prelude.{◌≡◌, List, ℕ}
use Rattle.std.proofs.Math.Path.{sym, ap}
use Rattle.std.proofs.Common.{◌∙◌}
use Rattle.layout.specs.declared.Shape.{Shape}
use Rattle.layout.specs.Fields.{entry_parent, entry_target, entry_name, entry_name_length}
use Rattle.layout.specs.View.{view_of, entry_at}
use Rattle.encode.specs.Facts.{Names}
use Rattle.encode.specs.Entry.{retargeted}
use Rattle.edits.proofs.Bodies.{bodies_formed}
use Rattle.edits.proofs.PartlyWritten.{entry_itself}
use Rattle.edits.proofs.ExchangeWrittenLaws.{side_names}
use Rattle.recounts.specs.declared.Move.{Move}
use Rattle.exchange_outcome.specs.Paired.{Paired}
use Rattle.exchange_outcome.proofs.PairedLaws.{in_image}
use Rattle.exchange_outcome.specs.Slot.{SlotNames}

module _ {h : Shape} {s : List ℕ} {m : Move} (c : Paired h s m) (x : List ℕ) where
  pub slot_before : entry_at h x m.new ≡ entry_at h s m.new → SlotNames h s x m m.replaced
  unfolding view_of
  slot_before e =
      let a = c.allowed.second in
      record {
        used = (a.used.0, λ z. a.used.1 (sym (ap entry_name_length e) ∙ z));
        parent = ap entry_parent e ∙ a.parent;
        name = ap entry_name e;
        target = ap entry_target e ∙ a.target;
      }

  pub slot_after : entry_at h x m.new ≡ retargeted m.moved (entry_at h s m.new) → SlotNames h s x m m.moved
  unfolding view_of
  slot_after e =
      let a = c.allowed.second in
      let n : Names (entry_at h x m.new) h.width m.into m.moved ((view_of h s).name m.new) =
      rw e (side_names c.read.laid c.bodies a (in_image c).moved) in
      record {
        used = (a.used.0, λ z. a.used.1 ((entry_itself c.read.laid (bodies_formed c.bodies) m.new a.used).name_length_lem ∙ sym n.name_length_lem ∙ z));
        parent = n.parent;
        name = n.name;
        target = n.target;
      }
