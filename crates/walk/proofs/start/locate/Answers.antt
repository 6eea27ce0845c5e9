-- `walk::start::locate` meets its contract. Assumes nothing.
use mathlib.Core.Path.{sym, ◌∙◌}
use borrow.Author.Tests.{eq-eqb, ne_eqb, lt-ltb, le-ltb}
use Rattle.layout.specs.Fields.{handle_inode}
use Rattle.layout.proofs.RecordLaws.{field_of}
use Rattle.layout.proofs.StateLaws.{record_state, record_other}
use Rattle.layout.specs.View.{view_of}
use Rattle.walk.proofs.start.locate.Goals as goal

pub returns-then-is_absolute : goal.returns-then-is_absolute
returns-then-is_absolute c = simp (sym c.is_absolute.ensures ∙ c.if-is_absolute.true)

pub returns-then-start-eq-NO_HANDLE : goal.returns-then-start-eq-NO_HANDLE
returns-then-start-eq-NO_HANDLE c = simp (sym c.is_absolute.ensures ∙ c.if-is_absolute.false, eq-eqb _ _ c.if-start-eq-NO_HANDLE.true)

pub returns-then-image-start : goal.returns-then-image-start
unfolding view_of
returns-then-image-start c =
    simp (
      sym c.is_absolute.ensures ∙ c.if-is_absolute.false,
      ne_eqb _ _ c.if-start-eq-NO_HANDLE.false,
      le-ltb _ _ c.if-image-start.true,
    )

pub returns-in-Closed : goal.returns-in-Closed
unfolding view_of
returns-in-Closed c =
    simp (
      sym c.is_absolute.ensures ∙ c.if-is_absolute.false,
      ne_eqb _ _ c.if-start-eq-NO_HANDLE.false,
      lt-ltb _ _ c.if-image-start.false,
      record_state c.handle-r.ensures c.in-Closed.ensures,
    )

pub returns-in-Search : goal.returns-in-Search
unfolding view_of
returns-in-Search c =
    simp (
      sym c.is_absolute.ensures ∙ c.if-is_absolute.false,
      ne_eqb _ _ c.if-start-eq-NO_HANDLE.false,
      lt-ltb _ _ c.if-image-start.false,
      record_state c.handle-r.ensures c.in-Search.ensures,
      sym (field_of handle_inode c.handle-r.ensures c.inode-directory.ensures.0),
    )

pub returns-in_default : goal.returns-in_default
unfolding view_of
returns-in_default c =
    simp (
      sym c.is_absolute.ensures ∙ c.if-is_absolute.false,
      ne_eqb _ _ c.if-start-eq-NO_HANDLE.false,
      lt-ltb _ _ c.if-image-start.false,
      ne_eqb _ _ (record_other c.handle-r.ensures c.state.ensures 0 c.in_default.not-Closed),
      ne_eqb _ _ (record_other c.handle-r.ensures c.state.ensures 2 c.in_default.not-Search),
      sym (field_of handle_inode c.handle-r.ensures c.inode-directory.ensures.0),
    )
