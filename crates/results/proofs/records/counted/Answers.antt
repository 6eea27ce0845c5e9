-- `results::records::counted` meets its contract. Assumes nothing.
use mathlib.Core.Path.{ap, ◌∙◌}
use Rattle.encode.specs.Inode.{with_links, with_modified, with_changed}
use Rattle.results.specs.Results.{holder_bytes}
use Rattle.results.proofs.records.counted.Goals as goal

pub returns : goal.returns
unfolding holder_bytes
returns c =
    let args = c.args in
    c.set_changed.ensures
    ∙ ap (λ x. with_changed args.time x) (c.set_modified.ensures
    ∙ ap (λ x. with_modified args.time x) (c.set_links.ensures ∙ ap (λ x. with_links args.links x) c.inode-r.ensures))
