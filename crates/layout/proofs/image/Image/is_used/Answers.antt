-- `layout::image::Image::is_used` meets its contract. Assumes nothing.
use Rattle.std.proofs.Common.{sym, ap, ◌∙◌}
use Rattle.layout.specs.Kinds.{kind_named}
use Rattle.layout.proofs.ViewLaws.{free_kind, used_kind}
use Rattle.layout.proofs.KindLaws.{number_of_kind}
use Rattle.layout.proofs.image.Image.is_used.Goals as goal
use Rattle.layout.proofs.image.Image.is_used.Goals.{in-Free, in_default}

pub returns : goal.returns
returns c =
    elim c.match-matches.branch [
      | in-Free w ↦ rw w.matches-is (sym (free_kind _ _ (number_of_kind _ _ w.in-Free.ensures)))
      | in_default w ↦ rw w.matches-is (sym (used_kind _ _ (λ e. w.in_default.not-Free (c.kind.ensures ∙ ap kind_named e))))
    ]
