-- `component::step::follow` meets its contract. Assumes nothing.
use mathlib.Core.Path.{sym, ap}
use Prim.Native.Nat.{◌+◌}
use native.Mathlib.Omega.{arith}
use lib.ListN.{length}
use Rattle.component.proofs.Splice.{rest_length}
use Rattle.layout.specs.Code.{number}
use Rattle.component.specs.State.{position_of}
use Rattle.component.proofs.StateLaws.{refused_turned}
use Rattle.component.proofs.Turns.{follows_long, follows_short}
use Rattle.component.proofs.step.follow.Goals as goal

pub returns-then-len-gt-PATH_LIMIT : goal.returns-then-len-gt-PATH_LIMIT
returns-then-len-gt-PATH_LIMIT c =
    let l = ap (λ n. length c.args.text.now + n) (sym (rest_length c.args.w c.args.e c.requires.0)) in
    follows_long _ (position_of c.args.w) _ _ (omega arith) _ l c.if-len-gt-PATH_LIMIT.true (refused_turned _ _ (position_of c.args.w) c.refuse-then-len-gt-PATH_LIMIT.ensures number)

pub returns : goal.returns
returns c =
    let l = ap (λ n. length c.args.text.now + n) (sym (rest_length c.args.w c.args.e c.requires.0)) in
    follows_short _ (position_of c.args.w) _ _ (omega arith) _ l c.if-len-gt-PATH_LIMIT.false c.join.ensures
