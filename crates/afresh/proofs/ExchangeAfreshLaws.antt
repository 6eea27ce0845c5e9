-- On an image on the way of an exchange the results are those on the image before. Assumes nothing.
use Rattle.std.specs.Prelude.{◌≡◌, refl, ◌⊎◌, not, ℕ, ◌+◌, ◌<◌, eqb}
use Rattle.std.proofs.Common.{ap, ◌∙◌, arith, lit<}
use Rattle.std.proofs.Math.Path.{ap₂}
use mathlib.Core.List.{List, [], ◌∷◌, ◌++◌}
use Rattle.seq.specs.Number.{bytes_of}
use Rattle.seq.proofs.NumberLaws.{bytes_of_length}
use Rattle.layout.specs.declared.Shape.{Shape}
use Rattle.layout.specs.Facts.{Laid}
use Rattle.layout.proofs.RecordLaws.{record_length}
use Rattle.layout.proofs.Commute.{put_again}
use Rattle.layout.specs.View.{view_of, inode_at, entry_at}
use Rattle.encode.specs.Entry.{retargeted}
use Rattle.edits.proofs.WrittenLaws.{same_size, same_entry}
use Rattle.plan.specs.Form.{entry_group}
use Rattle.plan.specs.Write.{Write, entry_key}
use Rattle.recounts.specs.declared.Move.{Move}
use Rattle.results.specs.Results.{moved_row, holder_bytes}
use Rattle.results.proofs.Again.{afresh}
use Rattle.exchanges.specs.Exchange.{back, children_exchanged, slot_row, parent_after, parent_row, exchange_results}
use Rattle.exchanges.specs.InImage.{BothInImage}
use Rattle.afresh.proofs.Inodes.{moved_afresh, holder_afresh, inode_row, when_same}
use Rattle.afresh.specs.ExchangeRecount.{OffSlots}
use Rattle.afresh.proofs.ExchangeRecountLaws.{exchanged_agree}
use Rattle.afresh.specs.ExchangeAfresh.{SidePartWay, ExchangePartWay}

module _ (h : Shape) (s x : List ℕ) (laid : Laid h s) where
  -- ---- one inode

  slot_same : (m : Move) → m.new < h.entries → SidePartWay h s x m → slot_row h x m ≡ slot_row h s m
  slot_same m l way =
      let r = entry_at h s m.new in
      let long = record_length h s 1 m.new laid.long (lit< tt) l in
      let twice = put_again r 2 (bytes_of 2 m.moved) (bytes_of 2 m.moved) (omega (arith, bytes_of_length 2 m.moved, long, laid.width_least)) refl in
      ap (λ (b : List ℕ). record { group = entry_group; key = entry_key m.new; body = b }) (afresh (λ y. retargeted m.moved y) r _ twice way.slot)

  moved_same : (m : Move) → m.moved < h.inodes → SidePartWay h s x m → moved_row h x m ≡ moved_row h s m
  moved_same m l way = inode_row m.moved (moved_afresh h s x laid m l way.moved)

  -- ---- both

  module _ (m : Move) (range : BothInImage h m) (way : ExchangePartWay h s x m) where
    pub off_slots : OffSlots (view_of h s) (view_of h x) m
    unfolding view_of
    off_slots = record { size = same_size h s x; entry = λ j l a b. same_entry h s x j (way.entry j l a b); kind = way.kind }

    parent_same : (i : ℕ) → i < h.inodes → (inode_at h x i ≡ inode_at h s i) ⊎ (inode_at h x i ≡ parent_after h s m i) → parent_row h x m i ≡ parent_row h s m i
    parent_same i l e =
        inode_row i (ap (λ (n : ℕ). holder_bytes (2 + n) m.now (inode_at h x i)) (exchanged_agree off_slots i)
        ∙ holder_afresh h s x laid i (2 + children_exchanged (view_of h s) m i) m.now l e)

    -- The results on x are the results on s, row by row and byte by byte.
    pub exchange_same : exchange_results h x m ≡ exchange_results h s m
    unfolding exchange_results
    exchange_same =
        ap₂ (λ (a bs : List Write). a ++ bs)
        (ap₂ (λ (a b : Write). a ∷ b ∷ []) (slot_same (back m) range.slots.old way.second) (slot_same m range.slots.new way.first))
        (ap₂ (λ (a : Write) (bs : List Write). a ∷ bs) (moved_same m range.moved way.first)
        (ap₂ (λ (a bs : List Write). a ++ bs)
        (ap₂ (λ (a : Write) (bs : List Write). a ∷ bs) (parent_same m.from range.from way.from)
        (when_same (not (eqb m.into m.from)) _ _ (λ _. parent_same m.into range.into way.into)))
        (ap (λ (b : Write). b ∷ []) (moved_same (back m) range.replaced way.second))))
