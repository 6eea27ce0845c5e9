-- `rename_steps::kinds::allow` meets its contract: the type of the moved inode decides. Assumes nothing.
use Rattle.std.proofs.Common.{ap, ◌∙◌, arith}
use Rattle.layout.specs.Kinds.{kind_named}
use Rattle.layout.proofs.KindLaws.{number_of_kind}
use Rattle.layout.proofs.ViewLaws.{kind_of_lem, other_kind}
use Rattle.rename_steps.proofs.kinds.allow.Goals as goal

pub of_directory-requires : goal.of_directory-requires
of_directory-requires c = (c.requires, kind_of_lem _ _ 2 (number_of_kind _ _ c.in-Directory.ensures) (omega arith))

pub of_other-requires : goal.of_other-requires
of_other-requires c = (c.requires, other_kind _ _ 2 (λ e. c.in_default.not-Directory (c.kind.ensures ∙ ap kind_named e)))
