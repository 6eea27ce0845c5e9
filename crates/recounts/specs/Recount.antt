-- The entries as a move edits them, counted on the image as it stands: one definition for rename and for recovery, whether the edit has been applied or not
-- (rule 88). A reader has to believe this file. Assumes nothing.
use Rattle.std.specs.Prelude.{Bool, false, ◌&&◌, cond, ℕ, ◌+◌, eqb}
use Rattle.seq.specs.Search.{count}
use Rattle.layout.specs.View.{View, is_directory}
use Rattle.tree.specs.Tree.{targets, holds_directory}
use Rattle.recounts.specs.declared.Move.{Move}

-- what slot j counts for: the old slot and the new one as the edit leaves them, whatever stands there, and any other as it stands
abbrev pub edited : Move → ℕ → Bool → Bool → Bool → Bool
edited m j old new stands = cond (eqb j m.old) old (cond (eqb j m.new) new stands)

module _ (v : View) (m : Move) where
  -- a rename clears the old slot, which then counts for nothing

  -- the entry in slot j, as edited, targets inode i
  abbrev pub targets_after : ℕ → ℕ → Bool
  targets_after i j = edited m j false (eqb m.moved i) (targets v i j)

  -- rule 88: how many entries are left that target inode i
  unfoldable pub entries_after : ℕ → ℕ
  entries_after i = count (targets_after i) v.entries

  -- the entry in slot j, as edited, lies in directory d and targets a directory
  abbrev pub holds_after : ℕ → ℕ → Bool
  holds_after d j = edited m j false (eqb m.into d && is_directory v m.moved) (holds_directory v d j)

  -- rule 88: how many child directories directory d has then
  unfoldable pub children_after : ℕ → ℕ
  children_after d = count (holds_after d) v.entries

  -- rule 88: the link count, as a consistent image has it (rules 31 and 32)
  unfoldable pub links_after : ℕ → ℕ
  links_after i = cond (is_directory v i) (2 + children_after i) (entries_after i)
