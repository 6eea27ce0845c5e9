-- The journal record of a move, and the row that sets it, which is the first of a plan (rules 85 and 87). A reader has to believe this file. Assumes nothing.
use Rattle.std.specs.Prelude.{ℕ}
use Rattle.encode.specs.declared.journal.Journal.{Journal}
use Rattle.encode.specs.Journal.{journal_bytes}
use Rattle.plan.specs.Form.{journal_group}
use Rattle.plan.specs.Write.{Write, journal_key}
use Rattle.recounts.specs.declared.Move.{Move}

-- form H and rule 87: the record, by the kind of the operation
abbrev pub journal_for : ℕ → Move → Journal
journal_for kind m = record {
  kind = kind;
  old = m.old;
  new = m.new;
  moved = m.moved;
  replaced = m.replaced;
  parent = m.from;
  text = m.text;
  time = m.now;
}

-- rule 85: the first row
abbrev pub start_row : ℕ → Move → Write
start_row kind m = record { group = journal_group; key = journal_key; body = journal_bytes (journal_for kind m) }
