-- An image on the way of an exchange: as before or as after, record by record. Assumes nothing.
use Rattle.std.specs.Prelude.{◌≡◌, ◌≢◌, ◌⊎◌, List, ℕ, ◌<◌}
use Rattle.layout.specs.declared.Shape.{Shape}
use Rattle.layout.specs.View.{view_of, inode_at, entry_at}
use Rattle.encode.specs.Entry.{retargeted}
use Rattle.recounts.specs.declared.Move.{Move}
use Rattle.results.specs.Results.{moved_after}
use Rattle.exchanges.specs.Exchange.{back, parent_after}

-- What becomes of one inode: it and the slot that it goes to are as before or as after.
pub record SidePartWay (h : Shape) (s x : List ℕ) (m : Move) : Type 0 where
  pub slot : (entry_at h x m.new ≡ entry_at h s m.new) ⊎ (entry_at h x m.new ≡ retargeted m.moved (entry_at h s m.new))
  pub moved : (inode_at h x m.moved ≡ inode_at h s m.moved) ⊎ (inode_at h x m.moved ≡ moved_after h s m)

-- The image x is on the way of the exchange on s: an entry off the two slots is as before, and every inode has its type.
pub record ExchangePartWay (h : Shape) (s x : List ℕ) (m : Move) : Type 0 where
  pub entry : (j : ℕ) → j < h.entries → j ≢ m.old → j ≢ m.new → entry_at h x j ≡ entry_at h s j
  pub first : SidePartWay h s x m
  pub second : SidePartWay h s x (back m)
  pub from : (inode_at h x m.from ≡ inode_at h s m.from) ⊎ (inode_at h x m.from ≡ parent_after h s m m.from)
  pub into : (inode_at h x m.into ≡ inode_at h s m.into) ⊎ (inode_at h x m.into ≡ parent_after h s m m.into)
  pub kind : (i : ℕ) → i < h.inodes → (view_of h x).kind i ≡ (view_of h s).kind i
