-- What it means to pass the order of refusal of an exchange: each test by itself. Assumes nothing.
use Rattle.std.specs.Prelude.{◌≡◌, false}
use Rattle.layout.specs.View.{View}
use Rattle.refusals.specs.declared.case.Case.{Case}
use Rattle.refusals.specs.Case.{same_file, read_only_parent, other_system, mounted, parent_denied, moved_stuck, replaced_stuck, inside_itself}
use Rattle.rename_steps.specs.Tests.{moved_denied}
use Rattle.exchange_steps.specs.Exchange.{replaced_above, replaced_denied, into_full, from_full}

pub record ExchangePassed (v : View) (c : Case) : Type 0 where
  pub other : same_file c ≡ false
  pub writable : read_only_parent v c ≡ false
  pub one_system : other_system v c ≡ false
  pub unmounted : mounted v c ≡ false
  pub permitted : parent_denied v c ≡ false
  pub unstuck : moved_stuck v c ≡ false
  pub target_unstuck : replaced_stuck v c ≡ false
  pub outside : inside_itself v c ≡ false
  pub above : replaced_above v c ≡ false
  pub movable : moved_denied v c ≡ false
  pub target_movable : replaced_denied v c ≡ false
  pub into_room : into_full v c ≡ false
  pub from_room : from_full v c ≡ false
