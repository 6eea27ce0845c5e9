-- `rename_drafts::undo` meets its contract. Assumes nothing.
use Rattle.rename_drafts.proofs.undo.Goals as goal

pub returns : goal.returns
returns c = rw c.none-rows.ensures at c.put_clear.ensures
