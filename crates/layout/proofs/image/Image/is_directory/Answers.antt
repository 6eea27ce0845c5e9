-- `layout::image::Image::is_directory` meets its contract. Assumes nothing.
use Rattle.std.proofs.Common.{sym, ap, ◌∙◌, arith}
use Rattle.layout.specs.Kinds.{kind_named}
use Rattle.layout.proofs.ViewLaws.{kind_of_lem, other_kind}
use Rattle.layout.proofs.KindLaws.{number_of_kind}
use Rattle.layout.proofs.image.Image.is_directory.Goals as goal

pub returns-in-Directory : goal.returns-in-Directory
returns-in-Directory c = sym (kind_of_lem _ _ 2 (number_of_kind _ _ c.in-Directory.ensures) (omega arith))

pub returns-in_default : goal.returns-in_default
returns-in_default c = sym (other_kind _ _ 2 (λ e. c.in_default.not-Directory (c.kind.ensures ∙ ap kind_named e)))
