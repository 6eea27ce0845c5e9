-- `recounts::entries_after` meets its contract. Assumes nothing.
use Rattle.std.proofs.Common.{rules}
use borrow.Author.Tests.{tests}
use Rattle.layout.specs.View.{view_of}
use Rattle.tree.specs.Tree.{targets, entries_of}
use Rattle.recounts.specs.Recount.{entries_after}
use Rattle.recounts.proofs.entries_after.Goals as goal

pub count_edited-requires-clause-stands : goal.count_edited-requires-clause-stands
unfolding entries_of view_of
count_edited-requires-clause-stands c =
    (targets (view_of c.args.image.now.shape c.args.image.now.bytes.now) c.args.i, record { each = λ j b l e. search (rules, tests); counted = c.entries_of-stand.ensures })

pub returns : goal.returns
unfolding entries_of entries_after view_of
returns c =
    c.count_edited.ensures (targets (view_of c.args.image.now.shape c.args.image.now.bytes.now) c.args.i)
    (record { each = λ j b l e. search (rules, tests); counted = c.entries_of-stand.ensures })
