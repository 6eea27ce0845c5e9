-- `layout::contents::width_of` meets its contract. Assumes nothing.
use mathlib.Core.Path.{refl}
use native.Mathlib.Omega.{arith}
use Rattle.layout.proofs.contents.width_of.Goals as goal

pub returns : goal.returns
returns c = (refl, omega arith)
