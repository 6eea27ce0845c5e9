-- Views that agree off the slots of a move, and in the types of what is still named. Assumes nothing.
use Rattle.std.specs.Prelude.{◌≡◌, ◌≢◌, ◌⊎◌, ℕ, ◌<◌}
use Rattle.layout.specs.View.{View}
use Rattle.edits.specs.Edit.{SameEntry, SameSize}
use Rattle.recounts.specs.declared.Move.{Move}
use Rattle.recounts.specs.Recount.{entries_after}

-- The view w is v off the two slots, and an inode has its type unless no entry is left that names it.
pub record Agrees (v w : View) (m : Move) : Type 0 where
  pub size : SameSize v w
  pub entry : (j : ℕ) → j < v.entries → j ≢ m.old → j ≢ m.new → SameEntry v w j
  pub kind : (i : ℕ) → i < v.inodes → (w.kind i ≡ v.kind i) ⊎ (entries_after v m i ≡ 0)

-- The edit has been made: the old slot is free, and the new one lies in `into` and targets `moved`.
pub record Made (w : View) (m : Move) : Type 0 where
  pub cleared : w.name_length m.old ≡ 0
  pub used : w.name_length m.new ≢ 0
  pub parent : w.parent m.new ≡ m.into
  pub target : w.target m.new ≡ m.moved
