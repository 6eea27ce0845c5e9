-- What a rename leaves in each record that it touches, in bytes, and its rows behind the deciding one: one definition for rename and for
-- recovery, which count the entries as edited, whether the edit has been applied or not. A reader has to believe this file. Assumes nothing.
use Rattle.std.specs.Prelude.{Bool, true, false, not, cond, List, [], ◌∷◌, ◌++◌, ℕ, eqb, replicate}
use Rattle.layout.specs.declared.Shape.{Shape}
use Rattle.layout.specs.Limits.{absent}
use Rattle.layout.specs.Place.{Key, record_bytes}
use Rattle.layout.specs.Fields.{inode_kind}
use Rattle.layout.specs.View.{view_of, inode_at}
use Rattle.encode.specs.Inode.{with_links, with_field, with_modified, with_changed}
use Rattle.plan.specs.Form.{result_group, clear_group}
use Rattle.plan.specs.Write.{Write, inode_key, entry_key, text_key, journal_key}
use Rattle.recounts.specs.declared.Move.{Move}
use Rattle.recounts.specs.Recount.{entries_after, links_after}

-- form H: the number names a replaced inode, or a text
abbrev pub present : ℕ → Bool
present n = not (eqb n absent)

-- ---- the records, made from their bytes as they stand

-- a record of zeros in section k
abbrev pub free_record : Shape → ℕ → List ℕ
free_record h k = replicate (record_bytes h k) 0

-- rule 89: the moved inode gets its time of change, and a directory its new parent
abbrev pub reparented : Bool → ℕ → List ℕ → List ℕ
reparented true into r = with_field into r
reparented false into r = r

unfoldable pub moved_bytes : ℕ → ℕ → List ℕ → List ℕ
moved_bytes into time r = reparented (eqb (inode_kind r) 2) into (with_changed time r)

-- rule 90: the old and the new parent get their link count and both times
unfoldable pub holder_bytes : ℕ → ℕ → List ℕ → List ℕ
holder_bytes links time r = with_changed time (with_modified time (with_links links r))

-- rule 91: the replaced inode gets its link count and its time of change; with no entry left it is free
unfoldable pub replaced_bytes : Shape → ℕ → ℕ → ℕ → List ℕ → List ℕ
replaced_bytes h left links time r = cond (eqb left 0) (free_record h 0) (with_changed time (with_links links r))

-- ---- the rows

abbrev pub result_row : Key → List ℕ → Write
result_row key body = record { group = result_group; key = key; body = body }

-- a row where it is asked for
abbrev pub when : Bool → Write → List Write
when true w = w ∷ []
when false w = []

module _ (h : Shape) (s : List ℕ) (m : Move) where
  -- the new bytes of the inodes
  abbrev pub moved_after : List ℕ
  moved_after = moved_bytes m.into m.now (inode_at h s m.moved)

  abbrev pub holder_after : ℕ → List ℕ
  holder_after i = holder_bytes (links_after (view_of h s) m i) m.now (inode_at h s i)

  abbrev pub replaced_after : List ℕ
  replaced_after =
      replaced_bytes h (entries_after (view_of h s) m m.replaced) (links_after (view_of h s) m m.replaced) m.now (inode_at h s m.replaced)

  -- a row for each record
  abbrev pub old_row : Write
  old_row = result_row (entry_key m.old) (free_record h 1)

  abbrev pub moved_row : Write
  moved_row = result_row (inode_key m.moved) moved_after

  abbrev pub holder_row : ℕ → Write
  holder_row i = result_row (inode_key i) (holder_after i)

  abbrev pub replaced_row : Write
  replaced_row = result_row (inode_key m.replaced) replaced_after

  abbrev pub text_row : Write
  text_row = result_row (text_key m.text) (free_record h 2)

  -- rule 85: always the old entry cleared, the moved inode and the old parent
  abbrev pub always_rows : List Write
  always_rows = old_row ∷ moved_row ∷ holder_row m.from ∷ []

  -- rule 85: the new parent if it is another directory, the replaced inode if there is one, the text if one is freed
  abbrev pub into_rows : List Write
  into_rows = when (not (eqb m.into m.from)) (holder_row m.into)

  abbrev pub replaced_rows : List Write
  replaced_rows = when (present m.replaced) replaced_row

  abbrev pub text_rows : List Write
  text_rows = when (present m.text) text_row

  -- rule 85: the rows in the order of the plan
  unfoldable pub results : List Write
  results = always_rows ++ into_rows ++ replaced_rows ++ text_rows

-- rule 85: the last row clears the journal record
abbrev pub clear_row : Shape → Write
clear_row h = record { group = clear_group; key = journal_key; body = free_record h 4 }
