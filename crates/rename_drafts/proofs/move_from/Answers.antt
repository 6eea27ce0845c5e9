-- `rename_drafts::move_from` meets its contract. Assumes nothing.
use Rattle.layout.specs.View.{view_of}
use Rattle.layout.specs.Fields.{entry_parent}
use Rattle.layout.proofs.RecordLaws.{field_of}
use Rattle.rename_drafts.proofs.move_from.Goals as goal

pub returns : goal.returns
unfolding view_of
returns c =
    let j = c.args.j in
    let into = field_of entry_parent c.entry-e.ensures c.parent.ensures.0 in
    λ i. record {
      old = j.old;
      new = j.new;
      moved = j.moved;
      from = j.parent;
      into = into i;
      replaced = j.replaced;
      text = j.text;
      now = j.time;
    }
