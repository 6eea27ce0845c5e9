-- `consistency::entries::good` meets its contract. Assumes nothing.
use Rattle.std.proofs.Common.{rules}
use Rattle.layout.specs.View.{view_of}
use Rattle.names.specs.NameTests.{name_spelled}
use Rattle.consistency.specs.Entry.{entry_spelled, used_good, entry_good}
use Rattle.consistency.proofs.entries.good.Goals as goal

pub returns-then-n-eq0 : goal.returns-then-n-eq0
unfolding entry_good view_of
returns-then-n-eq0 c = search rules

pub returns-then-not-is_dots : goal.returns-then-not-is_dots
unfolding entry_good used_good entry_spelled name_spelled view_of
returns-then-not-is_dots c = search rules

pub returns-else-not-is_dots : goal.returns-else-not-is_dots
unfolding entry_good used_good entry_spelled name_spelled view_of
returns-else-not-is_dots c = search rules
