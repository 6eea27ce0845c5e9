-- Steps 1 to 13 of the order of refusal of a rename (rules 65 to 77), as a list of which the first that holds decides. A reader has to believe this file.
-- Assumes nothing.
use Rattle.std.specs.Prelude.{List, [], ◌∷◌, ◌++◌}
use Rattle.layout.specs.Errno.{EBUSY, EACCES, ENOTDIR, EISDIR, ENOTEMPTY, EMLINK, ENOSPC}
use Rattle.layout.specs.View.{View}
use Rattle.refusals.specs.Answered.{Same}
use Rattle.refusals.specs.declared.case.Case.{Case}
use Rattle.refusals.specs.Case.{same_file}
use Rattle.refusals.specs.Rules.{Rule, refuse, parent_rules}
use Rattle.rename_steps.specs.Tests.{replaces_other, replaces_directory, slashed_file, moved_denied, not_empty, busy, full_parent, no_slot}

module _ (v : View) (c : Case) where
  -- steps 8 to 10: what is asked of the two types
  abbrev pub kind_rules : List Rule
  kind_rules =
      refuse (replaces_other v c) ENOTDIR
      ∷ refuse (replaces_directory v c) EISDIR
      ∷ refuse (slashed_file v c) ENOTDIR
      ∷ refuse (moved_denied v c) EACCES
      ∷ refuse (not_empty v c) ENOTEMPTY
      ∷ []

  -- steps 11 to 13: what is asked of the target
  abbrev pub target_rules : List Rule
  target_rules = refuse (busy v c) EBUSY ∷ refuse (full_parent v c) EMLINK ∷ refuse (no_slot v c) ENOSPC ∷ []

  -- steps 1 to 13
  abbrev pub steps : List Rule
  steps = record { test = same_file c; answer = Same } ∷ (parent_rules v c ++ (kind_rules ++ target_rules))
