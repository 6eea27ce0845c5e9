-- The inodes that the code finds for a case lie in their section. Assumes nothing.
use Rattle.std.specs.Prelude.{List, ℕ}
use Rattle.layout.specs.declared.Shape.{Shape}
use Rattle.layout.specs.View.{view_of}
use Rattle.layout.proofs.ViewLaws.{is_kind_below, is_used_below}
use Rattle.refusals.specs.declared.case.Case.{Case}
use Rattle.refusals.specs.CaseIn.{CaseIn}
use Rattle.refusals.specs.Within.{Within}

pub case_within : (h : Shape) (s : List ℕ) (c : Case) → CaseIn (view_of h s) c → Within h c
case_within h s c f = record {
  moved = is_used_below h s c.moved f.moved;
  from = is_kind_below h s c.from 2 f.from;
  into = is_kind_below h s c.into 2 f.into;
  replaced = λ n. is_used_below h s c.replaced (f.replaced n);
}
