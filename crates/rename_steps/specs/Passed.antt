-- What it means to pass the order of refusal of a rename: each test by itself. Assumes nothing.
use Rattle.std.specs.Prelude.{◌≡◌, false}
use Rattle.layout.specs.View.{View}
use Rattle.refusals.specs.declared.case.Case.{Case}
use Rattle.refusals.specs.Case.{same_file, read_only_parent, other_system, mounted, parent_denied, moved_stuck, replaced_stuck, inside_itself}
use Rattle.rename_steps.specs.Tests.{moved_denied, not_empty, busy, full_parent, no_slot}
use Rattle.rename_steps.specs.Kinds.{TypesFit}

pub record Passed (v : View) (c : Case) : Type 0 where
  pub other : same_file c ≡ false
  pub writable : read_only_parent v c ≡ false
  pub one_system : other_system v c ≡ false
  pub unmounted : mounted v c ≡ false
  pub permitted : parent_denied v c ≡ false
  pub unstuck : moved_stuck v c ≡ false
  pub target_unstuck : replaced_stuck v c ≡ false
  pub outside : inside_itself v c ≡ false
  pub types : TypesFit v c
  pub movable : moved_denied v c ≡ false
  pub empty : not_empty v c ≡ false
  pub idle : busy v c ≡ false
  pub countable : full_parent v c ≡ false
  pub slot : no_slot v c ≡ false
