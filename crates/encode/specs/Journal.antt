-- The journal record as one value: its bytes, and what is read from bytes (form H). A reader has to believe this file. Assumes nothing.
use Rattle.std.specs.Prelude.{Bool, ◌&&◌, List, ◌∷◌, ◌++◌, [], ℕ, eqb, get_or, replicate}
use Rattle.seq.specs.Bytes.{zeros}
use Rattle.seq.specs.Number.{bytes_of}
use Rattle.layout.specs.Fields.{journal_mark, journal_old_slot, journal_new_slot, journal_moved, journal_replaced, journal_old_parent, journal_text, journal_time}
use Rattle.encode.specs.declared.journal.Journal.{Journal}

-- form H: the kinds of operations
abbrev pub rename_kind : ℕ
rename_kind = 0

abbrev pub exchange_kind : ℕ
exchange_kind = 7

-- form H: what a journal record says; its second byte is the operation's kind
unfoldable pub journal_of : List ℕ → Journal
journal_of r = record {
  kind = get_or r 1 0;
  old = journal_old_slot r;
  new = journal_new_slot r;
  moved = journal_moved r;
  replaced = journal_replaced r;
  parent = journal_old_parent r;
  text = journal_text r;
  time = journal_time r;
}

-- form H: marked as pending, with zeros behind the numbers and behind the time
unfoldable pub journal_formed : List ℕ → Bool
journal_formed r = eqb (journal_mark r) 1 && zeros r 14 2 && zeros r 24 8

-- form H: the sixteen bytes in front of the time, and the whole record
unfoldable pub journal_head : Journal → List ℕ
journal_head j =
    1 ∷ j.kind ∷ bytes_of 2 j.old ++ bytes_of 2 j.new ++ bytes_of 2 j.moved ++ bytes_of 2 j.replaced ++ bytes_of 2 j.parent
    ++ bytes_of 2 j.text ++ 0 ∷ 0 ∷ []

unfoldable pub journal_bytes : Journal → List ℕ
journal_bytes j = journal_head j ++ bytes_of 8 j.time ++ replicate 8 0
