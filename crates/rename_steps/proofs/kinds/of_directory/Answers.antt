-- `rename_steps::kinds::of_directory` meets its contract. Assumes nothing.
use Rattle.std.proofs.Common.{refl, ap, ◌∙◌}
use Rattle.layout.specs.Kinds.{kind_named}
use Rattle.layout.proofs.KindLaws.{number_of_kind}
use Rattle.rename_steps.proofs.KindLaws.{new_denied, new_passes, onto_denied, onto_full, onto_passes, onto_other}
use Rattle.rename_steps.proofs.kinds.of_directory.Goals as goal

pub returns-then-denied : goal.returns-then-denied
returns-then-denied c =
    new_denied _ _ _ c.args.image.now.laid c.requires.0 refl c.requires.1 c.denied.ensures (number_of_kind _ _ c.in-Free.ensures) c.if-denied.true

pub returns-then-denied-2 : goal.returns-then-denied-2
returns-then-denied-2 c =
    onto_denied _ _ _ c.args.image.now.laid c.requires.0 refl c.requires.1
    c.denied-in-Directory.ensures (number_of_kind _ _ c.in-Directory.ensures) c.if-denied-2.true

pub returns-then-has_entries : goal.returns-then-has_entries
returns-then-has_entries c =
    onto_full _ _ _ c.args.image.now.laid c.requires.0 refl c.requires.1
    c.denied-in-Directory.ensures (number_of_kind _ _ c.in-Directory.ensures) c.has_entries.ensures c.if-denied-2.false c.if-has_entries.true

pub returns-else-denied : goal.returns-else-denied
returns-else-denied c =
    new_passes _ _ _ c.args.image.now.laid c.requires.0 refl c.requires.1 c.denied.ensures (number_of_kind _ _ c.in-Free.ensures) c.if-denied.false

pub returns-else-has_entries : goal.returns-else-has_entries
returns-else-has_entries c =
    onto_passes _ _ _ c.args.image.now.laid c.requires.0 refl c.requires.1
    c.denied-in-Directory.ensures (number_of_kind _ _ c.in-Directory.ensures) c.has_entries.ensures c.if-denied-2.false c.if-has_entries.false

pub returns-in_default : goal.returns-in_default
returns-in_default c =
    onto_other _ _ _ c.args.image.now.laid c.requires.0 refl c.requires.1
    (λ e. c.in_default.not-Free (c.kind.ensures ∙ ap kind_named e)) (λ e. c.in_default.not-Directory (c.kind.ensures ∙ ap kind_named e))
