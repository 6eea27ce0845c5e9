-- `recounts::children_after` meets its contract. Assumes nothing.
use Rattle.std.proofs.Common.{rules, ◌≡◌, ◌≤◌, false}
use borrow.Author.Tests.{tests}
use Rattle.seq.specs.Search.{count}
use Rattle.layout.specs.Limits.{entry_limit}
use Rattle.layout.specs.View.{view_of}
use Rattle.tree.specs.Tree.{holds_directory, child_directories}
use Rattle.recounts.specs.Recount.{edited, children_after}
use Rattle.recounts.proofs.children_after.Goals as goal

pub count_edited-requires-clause-stands : goal.count_edited-requires-clause-stands
unfolding child_directories view_of
count_edited-requires-clause-stands c =
    (holds_directory (view_of c.args.image.now.shape c.args.image.now.bytes.now) c.args.d, record { each = λ j b l e. search (rules, tests); counted = c.child_directories-stand.ensures.0 })

pub returns : goal.returns
unfolding child_directories children_after view_of
returns c =
    let held = holds_directory (view_of c.args.image.now.shape c.args.image.now.bytes.now) c.args.d in
    let n = c.args.image.now.shape.entries in
    let made = c.makes_child-made.result in
    let counted : (c.count_edited.result ≡ count (λ j. edited c.args.m j false made (held j)) n) × (c.count_edited.result ≤ entry_limit) =
    c.count_edited.ensures held (record { each = λ j b l e. search (rules, tests); counted = c.child_directories-stand.ensures.0 }) in
    rw c.makes_child-made.ensures at counted
