-- `results::records::inode` meets its contract. Assumes nothing.
use mathlib.Core.Path.{◌∙◌}
use borrow.Author.Rules.{rules}
use Rattle.seq.proofs.BytesLaws.{put_whole}
use Rattle.results.proofs.records.inode.Goals as goal

pub returns : goal.returns
returns c =
    let read = c.inode.ensures in
    c.copy.ensures ∙ put_whole _ _ (search rules) ∙ read.is
