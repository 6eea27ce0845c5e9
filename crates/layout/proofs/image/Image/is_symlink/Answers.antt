-- `layout::image::Image::is_symlink` meets its contract. Assumes nothing.
use Rattle.std.proofs.Common.{sym, ap, ◌∙◌, arith}
use Rattle.layout.specs.Kinds.{kind_named}
use Rattle.layout.proofs.ViewLaws.{kind_of_lem, other_kind}
use Rattle.layout.proofs.KindLaws.{number_of_kind}
use Rattle.layout.proofs.image.Image.is_symlink.Goals as goal

pub returns-in-Symlink : goal.returns-in-Symlink
returns-in-Symlink c = sym (kind_of_lem _ _ 3 (number_of_kind _ _ c.in-Symlink.ensures) (omega arith))

pub returns-in_default : goal.returns-in_default
returns-in_default c = sym (other_kind _ _ 3 (λ e. c.in_default.not-Symlink (c.kind.ensures ∙ ap kind_named e)))
