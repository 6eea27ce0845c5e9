-- `tree::entry_holds_directory` meets its contract. Assumes nothing.
use mathlib.Core.Path.{sym, ◌∙◌}
use mathlib.Core.Bool.{and-false, false≢true}
use borrow.Author.Tests.{eq-eqb, ne_eqb}
use Rattle.layout.specs.Fields.{entry_name_length, entry_parent, entry_target}
use Rattle.layout.proofs.RecordLaws.{field_of}
use Rattle.tree.proofs.entry_holds_directory.Goals.{then-parent-i, else-parent-i}
use Rattle.layout.specs.View.{view_of}
use Rattle.tree.proofs.entry_holds_directory.Goals as goal

pub returns-then-name_length-ne0 : goal.returns-then-name_length-ne0
unfolding view_of
returns-then-name_length-ne0 c =
    let p = field_of entry_parent c.entry-e.ensures c.parent.ensures.0 in
    let t = field_of entry_target c.entry-e.ensures c.target.ensures.0 in
    elim c.if-parent-i.branch [
      | then-parent-i w ↦
          let n = field_of entry_name_length c.entry-e.ensures w.name_length.ensures.0 in
          simp (sym n, sym t, sym p, eq-eqb _ _ w.if-parent-i.true, sym w.value-is ∙ c.if-name_length-ne0.true, c.is_directory.ensures)
      | else-parent-i w ↦ absurd (false≢true (sym (ne_eqb _ _ w.if-parent-i.false) ∙ sym w.value-is ∙ c.if-name_length-ne0.true))
    ]

pub returns-else-name_length-ne0 : goal.returns-else-name_length-ne0
unfolding view_of
returns-else-name_length-ne0 c =
    let p = field_of entry_parent c.entry-e.ensures c.parent.ensures.0 in
    elim c.if-parent-i.branch [
      | then-parent-i w ↦
          let n = field_of entry_name_length c.entry-e.ensures w.name_length.ensures.0 in
          simp (sym n, w.value-is, sym w.value-is ∙ c.if-name_length-ne0.false)
      | else-parent-i w ↦ simp (and-false, c.if-name_length-ne0.false, sym p, ne_eqb _ _ w.if-parent-i.false)
    ]
