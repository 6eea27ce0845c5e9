-- Inodes that a move writes, made afresh: over what stands, as before or as after, they are as after; and the rows that write them. Assumes nothing.
use Rattle.std.specs.Prelude.{◌≡◌, refl, ◌⊎◌, Bool, true, false, List, [], ◌∷◌, ℕ, ◌<◌, length}
use Rattle.std.proofs.Common.{ap, lit<}
use Rattle.layout.specs.declared.Shape.{Shape}
use Rattle.layout.specs.Facts.{Laid}
use Rattle.layout.proofs.RecordLaws.{record_length}
use Rattle.layout.specs.View.{inode_at}
use Rattle.plan.specs.Write.{Write, inode_key}
use Rattle.recounts.specs.declared.Move.{Move}
use Rattle.results.specs.Results.{moved_bytes, holder_bytes, moved_after, result_row, when}
use Rattle.results.proofs.Again.{moved_again, holder_again, afresh}

pub inode_long : (h : Shape) (s : List ℕ) → Laid h s → (i : ℕ) → i < h.inodes → length (inode_at h s i) ≡ 32
inode_long h s laid i l = record_length h s 0 i laid.long (lit< tt) l

module _ (h : Shape) (s x : List ℕ) (laid : Laid h s) where
  pub moved_afresh : (m : Move) → m.moved < h.inodes
      → (inode_at h x m.moved ≡ inode_at h s m.moved) ⊎ (inode_at h x m.moved ≡ moved_after h s m) → moved_after h x m ≡ moved_after h s m
  moved_afresh m l e =
      afresh (λ r. moved_bytes m.into m.now r) (inode_at h s m.moved) _ (moved_again _ (inode_long h s laid m.moved l) m.into m.now) e

  -- a parent, with a count that does not hang on the image
  pub holder_afresh : (i links time : ℕ) → i < h.inodes → (inode_at h x i ≡ inode_at h s i) ⊎ (inode_at h x i ≡ holder_bytes links time (inode_at h s i))
      → holder_bytes links time (inode_at h x i) ≡ holder_bytes links time (inode_at h s i)
  holder_afresh i links time l e =
      afresh (λ r. holder_bytes links time r) (inode_at h s i) _ (holder_again _ (inode_long h s laid i l) links time) e

-- rows of the same bytes
pub inode_row : (i : ℕ) {b c : List ℕ} → b ≡ c → result_row (inode_key i) b ≡ result_row (inode_key i) c
inode_row i e = ap (λ (b : List ℕ). result_row (inode_key i) b) e

pub when_same : (b : Bool) (u w : Write) → (b ≡ true → u ≡ w) → when b u ≡ when b w
when_same true u w f = ap (λ (x : Write). x ∷ []) (f refl)
when_same false u w f = refl
