-- `plan::rows::Rows::push_clearing` meets its contract. Assumes nothing.
use mathlib.Core.Path.{refl}
use native.Mathlib.Omega.{arith}
use Rattle.std.specs.Prelude.{ℕ}
use Rattle.std.proofs.lemmas.List.{length-replicate}
use Rattle.plan.proofs.rows.Rows.push_clearing.Goals as goal

pub returns : goal.returns
returns c = record {
  bytes =
      let e = c.put_clearing.ensures in
      rw c.from.ensures at e;
  count = refl;
  fits = omega (arith, c.requires.1, length-replicate {A = ℕ} c.args.n 0);
}
