-- `plan::put_row` meets its contract. Assumes nothing.
use mathlib.Core.Path.{◌∙◌, ap}
use Prim.Native.Nat.{◌+◌, ◌*◌}
use Rattle.seq.specs.Bytes.{put}
use Rattle.seq.specs.Number.{bytes_of}
use Rattle.plan.specs.Form.{header_of, row_stored}
use Rattle.plan.proofs.put_row.Goals as goal

pub returns : goal.returns
unfolding row_stored header_of bytes_of
returns c =
    let args = c.args in
    let copy = c.copy in
    c.copy-2.ensures ∙ ap (λ l. put l (72 + 64 * args.i) args.body.now) copy.ensures
