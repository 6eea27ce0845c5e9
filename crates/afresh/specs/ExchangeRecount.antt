-- Views that agree off the slots of an exchange, and in the types of all inodes. Assumes nothing.
use Rattle.std.specs.Prelude.{◌≡◌, ◌≢◌, ℕ, ◌<◌}
use Rattle.layout.specs.View.{View}
use Rattle.edits.specs.Edit.{SameEntry, SameSize}
use Rattle.recounts.specs.declared.Move.{Move}

-- The view w is v off the two slots, and every inode has its type.
pub record OffSlots (v w : View) (m : Move) : Type 0 where
  pub size : SameSize v w
  pub entry : (j : ℕ) → j < v.entries → j ≢ m.old → j ≢ m.new → SameEntry v w j
  pub kind : (i : ℕ) → i < v.inodes → w.kind i ≡ v.kind i

-- The moved inode has gone over: the new slot lies in `into` and targets it.
pub record GoneOver (w : View) (m : Move) : Type 0 where
  pub used : w.name_length m.new ≢ 0
  pub parent : w.parent m.new ≡ m.into
  pub target : w.target m.new ≡ m.moved
