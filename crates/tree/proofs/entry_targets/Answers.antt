-- `tree::entry_targets` meets its contract. Assumes nothing.
use mathlib.Core.Path.{sym, ◌∙◌}
use mathlib.Core.Bool.{and-true, and-false}
use borrow.Author.Tests.{eq-eqb, ne_eqb}
use Rattle.layout.specs.Fields.{entry_name_length, entry_target}
use Rattle.layout.proofs.RecordLaws.{field_of}
use Rattle.layout.specs.View.{view_of}
use Rattle.tree.proofs.entry_targets.Goals as goal

pub returns-then-target-i : goal.returns-then-target-i
unfolding view_of
returns-then-target-i c =
    let entry = c.entry-e in
    simp (
      eq-eqb _ _ (sym (field_of entry_target entry.ensures c.target.ensures.0) ∙ c.if-target-i.true),
      and-true,
      field_of entry_name_length entry.ensures c.name_length.ensures.0,
    )

pub returns-else-target-i : goal.returns-else-target-i
unfolding view_of
returns-else-target-i c =
    let t = field_of entry_target c.entry-e.ensures c.target.ensures.0 in
    simp (and-false, t, rw t at (ne_eqb _ _ c.if-target-i.false))
