-- What the steps of the order of refusal ask of an exchange, and their order: steps 1 to 7, 9 and 12 (rules 64c, 71a, 73a and 76a). A reader has to believe
-- this file. Assumes nothing.
use Rattle.std.specs.Prelude.{Bool, true, ◌&&◌, not, List, [], ◌∷◌, ◌++◌, eqb}
use Rattle.layout.specs.Errno.{EACCES, EINVAL, EMLINK}
use Rattle.layout.specs.Limits.{link_limit}
use Rattle.layout.specs.View.{View, is_directory}
use Rattle.tree.specs.Tree.{reaches}
use Rattle.refusals.specs.Answered.{Same, Exchanged}
use Rattle.refusals.specs.declared.case.Case.{Case}
use Rattle.refusals.specs.Case.{same_file, may_write}
use Rattle.rename_steps.specs.Tests.{reparents, moved_denied}
use Rattle.refusals.specs.Rules.{Rule, refuse, parent_rules}

module _ (v : View) (c : Case) where
  -- rule 71a, step 7: the replaced inode is the old parent, or above it
  abbrev pub replaced_above : Bool
  replaced_above = reaches v c.replaced v.inodes c.from

  -- rule 73a, step 9: write permission is denied on a replaced directory, which gets another parent too
  abbrev pub replaced_reparents : Bool
  replaced_reparents = is_directory v c.replaced && not (eqb c.from c.into)

  abbrev pub replaced_denied : Bool
  replaced_denied = replaced_reparents && not (may_write v c.who c.replaced)

  -- rule 76a, step 12: a parent that gains a directory for something else has as many links as there may be
  abbrev pub into_full : Bool
  into_full = reparents v c && not (is_directory v c.replaced) && eqb (v.links c.into) link_limit

  abbrev pub from_full : Bool
  from_full = replaced_reparents && not (is_directory v c.moved) && eqb (v.links c.from) link_limit

  -- what is asked behind the parents; steps 8, 10, 11 and 13 ask nothing
  abbrev pub other_rules : List Rule
  other_rules =
      refuse replaced_above EINVAL
      ∷ refuse (moved_denied v c) EACCES
      ∷ refuse replaced_denied EACCES
      ∷ refuse into_full EMLINK
      ∷ refuse from_full EMLINK
      ∷ []

  -- rule 64c: the steps of an exchange
  abbrev pub exchange_steps : List Rule
  exchange_steps =
      record { test = same_file c; answer = Same } ∷ (parent_rules v c ++ (other_rules ++ record { test = true; answer = Exchanged } ∷ []))
