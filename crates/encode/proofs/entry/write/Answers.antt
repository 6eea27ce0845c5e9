-- `encode::entry::write` meets its contract. Assumes nothing.
use Rattle.encode.specs.EntryLaws.{entry_written}
use Rattle.encode.proofs.entry.write.Goals as goal

pub returns : goal.returns
returns c =
    let args = c.args in
    rw (c.copy.ensures, c.put16-2.ensures, c.put16.ensures, c.clear.ensures)
    (entry_written _ args.parent args.target args.name.now c.requires.0)
