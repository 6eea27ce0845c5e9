-- `component::step::step` meets its contract: the type decides. Assumes nothing.
use mathlib.Core.Path.{ap, ◌∙◌}
use Rattle.layout.specs.Kinds.{kind_named}
use Rattle.layout.proofs.KindLaws.{number_of_kind}
use native.Mathlib.Omega.{arith}
use Rattle.layout.specs.Seen.{seen}
use Rattle.layout.proofs.ViewLaws.{is_kind_below, kind_of_lem, other_kind}
use Rattle.layout.specs.Code.{number}
use Rattle.component.specs.State.{position_of}
use Rattle.component.proofs.StateLaws.{refused_turned}
use Rattle.component.proofs.Turns.{steps_nowhere, steps_inside}
use Rattle.component.proofs.step.step.Goals as goal

pub inside-requires : goal.inside-requires
inside-requires c =
    let k = kind_of_lem (seen c.args.tree.now.image) c.args.w.directory 2 (number_of_kind _ _ c.in-Directory.ensures) (omega arith) in
    (c.requires.0, c.requires.1, is_kind_below c.args.tree.now.image.shape c.args.tree.now.image.bytes.now _ 2 k)

pub returns-in-Directory : goal.returns-in-Directory
returns-in-Directory c =
    let k = kind_of_lem (seen c.args.tree.now.image) c.args.w.directory 2 (number_of_kind _ _ c.in-Directory.ensures) (omega arith) in
    steps_inside _ c.args.who c.args.last _ (position_of c.args.w) k c.inside.ensures

pub returns-in_default : goal.returns-in_default
returns-in_default c =
    let k = other_kind (seen c.args.tree.now.image) c.args.w.directory 2 (λ e. c.in_default.not-Directory (c.kind.ensures ∙ ap kind_named e)) in
    steps_nowhere _ c.args.who c.args.last _ (position_of c.args.w) k (refused_turned _ _ (position_of c.args.w) c.refuse.ensures number)
