-- `plan::rows::Rows::push` meets its contract. Assumes nothing.
use mathlib.Core.Path.{refl}
use Rattle.plan.proofs.rows.Rows.push.Goals as goal

pub returns : goal.returns
returns c = record {
  bytes =
      let e = c.put_row.ensures in
      rw c.from.ensures at e;
  count = refl;
  fits = c.requires.1;
}
