-- The slots of an exchange on every image on its way: each keeps parent and name and targets either inode. Assumes nothing.
use Rattle.std.specs.Prelude.{◌≡◌, refl, ◌⊎◌, List, ℕ}
use Rattle.std.proofs.Common.{sym, ◌∙◌, inl, inr, ⊎_elim}
use Rattle.layout.specs.declared.Shape.{Shape}
use Rattle.recounts.specs.declared.Move.{Move}
use Rattle.exchanges.specs.Exchange.{back}
use Rattle.afresh.specs.ExchangeAfresh.{SidePartWay}
use Rattle.image_store.specs.Mixed.{Mixed}
use Rattle.exchange_outcome.specs.Outcome.{exchanged}
use Rattle.exchange_outcome.specs.Paired.{Paired}
use Rattle.exchange_outcome.proofs.PairedLaws.{turned}
use Rattle.exchange_outcome.specs.Slot.{SlotNames}
use Rattle.exchange_outcome.proofs.SlotLaws.{slot_before, slot_after}
use Rattle.exchange_outcome.proofs.Way.{mixed_way}
use Rattle.exchange_survives.specs.Run.{SlotKept, ExchangeKept}

-- ---- one slot

module _ {h : Shape} {s : List ℕ} {m : Move} (c : Paired h s m) (x : List ℕ) where
  names_kept : {i : ℕ} → SlotNames h s x m i → (i ≡ m.moved) ⊎ (i ≡ m.replaced) → SlotKept h s x m
  names_kept n e = record {
    used = n.used;
    parent = n.parent ∙ sym c.allowed.second.parent;
    name = n.name;
    target = ⊎_elim (λ z. inl (n.target ∙ z)) (λ z. inr (n.target ∙ z)) e;
  }

  pub slot_kept : SidePartWay h s x m → SlotKept h s x m
  slot_kept way = ⊎_elim (λ e. names_kept (slot_before c x e) (inr refl)) (λ e. names_kept (slot_after c x e) (inl refl)) way.slot

-- ---- both

-- where each of two is either of two numbers, and not both are the one, one is the other
one_other : {a b i k : ℕ} → (a ≡ i) ⊎ (a ≡ k) → (b ≡ i) ⊎ (b ≡ k) → ((a ≡ k) × (b ≡ k) → ⊥) → (a ≡ i) ⊎ (b ≡ i)
one_other (inl e) q n = inl e
one_other (inr e) (inl f) n = inr f
one_other (inr e) (inr f) n = absurd (n (e, f))

pub swap : {A B : Type 0} → A ⊎ B → B ⊎ A
swap = ⊎_elim inr inl

module _ {h : Shape} {s : List ℕ} {m : Move} (c : Paired h s m) {x : List ℕ} (mixed : Mixed h s (exchanged h s m) x) where
  pub new_kept : SlotKept h s x m
  new_kept = slot_kept c x (mixed_way c mixed).first

  pub old_kept : SlotKept h s x (back m)
  old_kept = slot_kept (turned c) x (mixed_way c mixed).second

  pub exchange_kept : ExchangeKept h s x m
  exchange_kept = record {
    new = new_kept;
    old = old_kept;
    moved = one_other (swap old_kept.target) new_kept.target;
    replaced = one_other old_kept.target (swap new_kept.target);
  }
