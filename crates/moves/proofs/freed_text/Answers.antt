-- `moves::freed_text` meets its contract. Assumes nothing.
use mathlib.Core.Path.{◌≡◌, ap, ◌∙◌}
use mathlib.Core.Bool.{true}
use Rattle.seq.specs.Truth.{fails, holds}
use Rattle.layout.specs.Fields.{inode_field}
use Rattle.layout.specs.Limits.{absent}
use Rattle.layout.proofs.RecordLaws.{field_of}
use Rattle.layout.specs.View.{View, view_of, is_symlink}
use Rattle.layout.proofs.ViewLaws.{is_kind_below}
use Rattle.recounts.specs.Recount.{entries_after}
use Rattle.moves.specs.Plan.{move_with}
use Rattle.moves.specs.Texts.{text_other, text_kept, text_freed}
use Rattle.moves.proofs.freed_text.Goals as goal

pub returns-then-not-is_symlink : goal.returns-then-not-is_symlink
returns-then-not-is_symlink c =
    let args = c.args in
    text_other (view_of args.image.now.shape args.image.now.bytes.now) args.c args.time (fails c.is_symlink.ensures c.if-not-is_symlink.true-raw)

pub returns-then-entries_after-ne0 : goal.returns-then-entries_after-ne0
returns-then-entries_after-ne0 c =
    let view : View = view_of c.args.image.now.shape c.args.image.now.bytes.now in
    let symlink : is_symlink view c.args.c.replaced ≡ true = holds c.is_symlink.ensures c.if-not-is_symlink.false-raw in
    let counted : c.entries_after.result ≡ entries_after view (move_with c.args.c c.args.time absent) c.args.c.replaced =
    c.entries_after.ensures.0 ∙ ap (λ m. entries_after view m c.args.c.replaced) c.move_with-m.ensures in
    let args = c.args in
    text_kept view args.c args.time symlink _ counted c.if-entries_after-ne0.true

pub inode-r-requires : goal.inode-r-requires
inode-r-requires c =
    let view : View = view_of c.args.image.now.shape c.args.image.now.bytes.now in
    let symlink : is_symlink view c.args.c.replaced ≡ true = holds c.is_symlink.ensures c.if-not-is_symlink.false-raw in
    let args = c.args in
    (is_kind_below args.image.now.shape args.image.now.bytes.now _ 3 symlink)

pub returns : goal.returns
unfolding view_of
returns c =
    let view : View = view_of c.args.image.now.shape c.args.image.now.bytes.now in
    let symlink : is_symlink view c.args.c.replaced ≡ true = holds c.is_symlink.ensures c.if-not-is_symlink.false-raw in
    let counted : c.entries_after.result ≡ entries_after view (move_with c.args.c c.args.time absent) c.args.c.replaced =
    c.entries_after.ensures.0 ∙ ap (λ m. entries_after view m c.args.c.replaced) c.move_with-m.ensures in
    let args = c.args in
    text_freed view args.c args.time symlink _ counted c.if-entries_after-ne0.false _
    (field_of inode_field c.inode-r.ensures c.field.ensures.0)
