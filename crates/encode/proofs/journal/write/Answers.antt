-- `encode::journal::write` meets its contract. Assumes nothing.
use Rattle.std.specs.Prelude.{replicate}
use Rattle.std.proofs.Common.{ap, ◌∙◌}
use Rattle.seq.specs.Bytes.{put}
use Rattle.seq.specs.Number.{bytes_of}
use Rattle.encode.specs.Journal.{journal_head, journal_bytes}
use Rattle.encode.proofs.journal.write.Goals as goal

pub returns : goal.returns
unfolding put bytes_of journal_head journal_bytes
returns c =
    let zeros = c.clear.ensures ∙ ap (λ n. replicate n 0) c.requires in
    rw (c.put64.ensures, c.put16-6.ensures, c.put16-5.ensures, c.put16-4.ensures, c.put16-3.ensures, c.put16-2.ensures, c.put16.ensures, zeros)
