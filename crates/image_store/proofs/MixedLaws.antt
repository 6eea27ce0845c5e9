-- The records of an image that is as one or as the other of two, by sections; and that images on the way of an operation are so. Assumes nothing.
use Rattle.std.specs.Prelude.{◌≡◌, ◌≢◌, ◌⊎◌, Bool, List, ℕ, ◌<◌}
use Rattle.std.proofs.Common.{sym, ◌∙◌, subst, inl, inr, ⊎_elim, arith, lit<}
use Rattle.std.proofs.Math.Option.{Option}
use Rattle.layout.specs.declared.Shape.{Shape}
use Rattle.layout.specs.Place.{Key}
use Rattle.layout.specs.Facts.{Valid}
use Rattle.layout.specs.Record.{record_at}
use Rattle.layout.specs.View.{inode_at, entry_at}
use Rattle.plan.specs.Write.{Write, inode_key, entry_key, journal_key}
use Rattle.plan.proofs.WriteLaws.{other_section}
use Rattle.crash_theorem.specs.Obligations.{OnTheWay}
use Rattle.crash_theorem.specs.Plan.{Plan, after_of, change}
use Rattle.image_store.specs.Image.{record_of}
use Rattle.image_store.proofs.ImageLaws.{record_is, images}
use Rattle.image_store.specs.Mixed.{Mixed}

module _ {h : Shape} {s t x : List ℕ} (mixed : Mixed h s t x) where
  record_mixed : (k : Key) → Valid h k → k ≢ journal_key
      → (record_at h x k.section k.index ≡ record_at h s k.section k.index)
      ⊎ (record_at h x k.section k.index ≡ record_at h t k.section k.index)
  record_mixed k valid n =
      let back = sym (record_is h x k valid) in
      ⊎_elim (λ z. inl (back ∙ z ∙ record_is h s k valid)) (λ z. inr (back ∙ z ∙ record_is h t k valid)) (mixed.either k n)

  pub inode_mixed : (i : ℕ) → i < h.inodes → (inode_at h x i ≡ inode_at h s i) ⊎ (inode_at h x i ≡ inode_at h t i)
  inode_mixed i l = record_mixed (inode_key i) (record { in_image = lit< tt; in_section = l }) (other_section _ _ (λ e. omega arith))

  pub entry_mixed : (j : ℕ) → j < h.entries → (entry_at h x j ≡ entry_at h s j) ⊎ (entry_at h x j ≡ entry_at h t j)
  entry_mixed j l = record_mixed (entry_key j) (record { in_image = lit< tt; in_section = l }) (other_section _ _ (λ e. omega arith))

  -- a record is as before, or as its row writes it
  pub inode_either : (i : ℕ) (b : List ℕ) → i < h.inodes → inode_at h t i ≡ b → (inode_at h x i ≡ inode_at h s i) ⊎ (inode_at h x i ≡ b)
  inode_either i b l e = ⊎_elim inl (λ z. inr (z ∙ e)) (inode_mixed i l)

  pub entry_either : (j : ℕ) (b : List ℕ) → j < h.entries → entry_at h t j ≡ b → (entry_at h x j ≡ entry_at h s j) ⊎ (entry_at h x j ≡ b)
  entry_either j b l e = ⊎_elim inl (λ z. inr (z ∙ e)) (entry_mixed j l)

  -- one that no row writes is as before
  pub entry_stays : (j : ℕ) → j < h.entries → entry_at h t j ≡ entry_at h s j → entry_at h x j ≡ entry_at h s j
  entry_stays j l e = ⊎_elim (λ z. z) (λ z. z) (entry_either j _ l e)

-- on the way every record is as before or as after
pub way_mixed : {h : Shape} {s₀ : List ℕ} (p : Plan (images h s₀)) {recover : List ℕ → Option (List Write)} {t : List ℕ} → p.set.key ≡ journal_key
    → after_of (images h s₀) p ≡ t → (d : Bool) {x : List ℕ} → OnTheWay (change (images h s₀) p recover) d x → Mixed h p.before t x
way_mixed {h} {s₀} p {recover} {t} journal is d {x} i = record {
  either = λ k n.
      subst (λ (y : List ℕ). (record_of h x k ≡ record_of h p.before k) ⊎ (record_of h x k ≡ record_of h y k)) is (i.mixed k (λ e. n (e ∙ journal)));
}
