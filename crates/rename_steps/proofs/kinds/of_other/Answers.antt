-- `rename_steps::kinds::of_other` meets its contract. Assumes nothing.
use Rattle.std.proofs.Common.{refl, ap, ◌∙◌}
use Rattle.layout.specs.Kinds.{kind_named}
use Rattle.layout.proofs.KindLaws.{number_of_kind}
use Rattle.rename_steps.proofs.KindLaws.{other_slashed, other_new, other_directory, other_passes}
use Rattle.rename_steps.proofs.kinds.of_other.Goals as goal

pub returns-then-c : goal.returns-then-c
returns-then-c c =
    other_slashed _ _ _ c.args.image.now.laid c.requires.0 refl c.requires.1 (number_of_kind _ _ c.in-Free.ensures) c.if-c.true

pub returns-else-c : goal.returns-else-c
returns-else-c c =
    other_new _ _ _ c.args.image.now.laid c.requires.0 refl c.requires.1 (number_of_kind _ _ c.in-Free.ensures) c.if-c.false

pub returns-in-Directory : goal.returns-in-Directory
returns-in-Directory c =
    other_directory _ _ _ c.args.image.now.laid c.requires.0 refl c.requires.1 (number_of_kind _ _ c.in-Directory.ensures)

pub returns-in_default : goal.returns-in_default
returns-in_default c =
    other_passes _ _ _ c.args.image.now.laid c.requires.0 refl c.requires.1
    (λ e. c.in_default.not-Free (c.kind.ensures ∙ ap kind_named e)) (λ e. c.in_default.not-Directory (c.kind.ensures ∙ ap kind_named e))
