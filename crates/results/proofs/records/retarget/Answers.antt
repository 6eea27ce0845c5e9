-- `results::records::retarget` meets its contract. Assumes nothing.
use mathlib.Core.Path.{sym, ap, ◌∙◌}
use Rattle.seq.proofs.BytesLaws.{put_whole}
use Rattle.encode.specs.Entry.{retargeted}
use Rattle.results.proofs.records.retarget.Goals as goal

pub returns : goal.returns
returns c =
    let entry = c.entry in
    let copied = c.copy.ensures ∙ put_whole c.args.r.now _ (c.requires.1 ∙ sym entry.ensures.long) ∙ entry.ensures.is in
    c.set_target.ensures ∙ ap (retargeted c.args.target) copied
