-- `moves::move_of` meets its contract. Assumes nothing.
use mathlib.Core.Path.{ap, ◌∙◌}
use Rattle.moves.specs.Plan.{move_with, move_of}
use Rattle.moves.proofs.move_of.Goals as goal

pub returns : goal.returns
unfolding move_of
returns c =
    let args = c.args in
    c.move_with.ensures ∙ ap (λ t. move_with args.c args.time t) c.freed_text-text.ensures
