-- What a rename that is not refused knows when it plans its rows. Assumes nothing.
use Rattle.std.specs.Prelude.{◌≡◌, ◌≢◌, true, ◌&&◌, cond, List, ℕ, ◌≤◌, ◌<◌, eqb, length}
use Rattle.seq.specs.Number.{span}
use Rattle.layout.specs.declared.Shape.{Shape}
use Rattle.layout.specs.Limits.{absent}
use Rattle.layout.specs.Facts.{Read}
use Rattle.layout.specs.View.{View, view_of, entry_used, is_symlink, name_room}
use Rattle.names.specs.NameTests.{name_good}
use Rattle.consistency.specs.Sound.{journal_clear}
use Rattle.consistency.specs.RecordFacts.{Bodies}
use Rattle.edits.specs.Moved.{Allowed}
use Rattle.recounts.specs.declared.Move.{Move}
use Rattle.recounts.specs.Recount.{entries_after}

-- the inode that slot `new` names, if it is in use
abbrev pub replaced_of : View → ℕ → ℕ
replaced_of v new = cond (entry_used v new) (v.target new) absent

-- the text of a replaced symlink with no entry left
abbrev pub text_of : View → Move → ℕ
text_of v m = cond (is_symlink v m.replaced && eqb (entries_after v m m.replaced) 0) (v.field m.replaced) absent

pub record Called (h : Shape) (s : List ℕ) (m : Move) (called : List ℕ) : Type 0 where
  -- a consistent image
  pub read : Read s h
  pub bodies : Bodies h s
  pub clear : journal_clear h s ≡ true
  -- the new entry's name: of a replaced entry its own, and else the one that was missing
  pub name : List ℕ
  pub missing : m.replaced ≡ absent → called ≡ name
  pub nonempty : length name ≢ 0
  pub short : length name ≤ name_room h
  pub good : name_good name ≡ true
  -- both walks, and the refusals that did not come
  pub allowed : Allowed (view_of h s) m.old m.new m.moved m.from m.into name
  -- the rest of the move
  pub replaced : m.replaced ≡ replaced_of (view_of h s) m.new
  pub text : m.text ≡ text_of (view_of h s) m
  pub time : m.now < span 8
