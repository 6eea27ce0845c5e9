-- The draft of a recovery as the code makes it: none, or rows. Assumes nothing.
use Rattle.std.specs.Prelude.{List, Some, None}
use Rattle.std.specs.Prelude as std
use Rattle.std.proofs.Math.Option.{Option, none, some}
use Rattle.layout.specs.declared.Shape.{Shape}
use Rattle.plan.specs.declared.rows.Rows.{Rows}
use Rattle.plan.specs.Write.{Write}
use Rattle.plan.specs.Added.{no_rows, Added}

-- The answer is these rows, or none where there are none.
abbrev pub Drafted : Shape → Option (List Write) → std.Option Rows → Type 0
Drafted h none None = Unit {0}
Drafted h none (Some rows) = ⊥
Drafted h (some ws) None = ⊥
Drafted h (some ws) (Some rows) = Added h no_rows ws rows
