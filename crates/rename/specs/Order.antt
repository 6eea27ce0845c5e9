-- The whole order of refusal of a rename or an exchange, for any bytes: buffer, layout, journal record, bodies, request, flags, old's walk, new's walk, what the
-- flags ask of new's name, the steps (rules 63 to 64c). A reader has to believe this file. Assumes nothing.
use Rattle.std.specs.Prelude.{Bool, false, ◌&&◌, not, cond, List, [], ◌∷◌, ◌++◌, ℕ, eqb, ltb, length}
use Rattle.seq.specs.Search.{first}
use Rattle.layout.specs.Limits.{absent}
use Rattle.layout.specs.Errno.{ENOENT, EEXIST, EINVAL, short_buffer, inconsistent, journal_pending, wrong_request}
use Rattle.layout.specs.Contents.{layout_good, shape_of}
use Rattle.layout.specs.View.{View, view_of, entry_used}
use Rattle.consistency.specs.Sound.{journal_clear, bodies_good}
use Rattle.paths.specs.declared.request.Request.{Request}
use Rattle.paths.specs.Request.{request_good}
use Rattle.paths.specs.Flags.{asks_no_replace, asks_exchange, flags_good}
use Rattle.component.specs.Step.{Finding, existing, missing, nothing}
use Rattle.walk.specs.Both.{Ends, walks_of}
use Rattle.refusals.specs.declared.case.Case.{Case}
use Rattle.refusals.specs.Case.{exists}
use Rattle.refusals.specs.Rules.{Rule, refuse}
use Rattle.rename_steps.specs.Steps.{steps}
use Rattle.exchange_steps.specs.Exchange.{exchange_steps}
use Rattle.plan.specs.Form.{plan_bytes}

-- the lowest free slot, or the number of slots where none is free
unfoldable pub free_slot : View → ℕ
free_slot v = first (λ j. not (entry_used v j)) v.entries

-- what a walk has found, part by part; a missing name goes to the lowest free slot, and replaces nothing
abbrev pub directory_of : Finding → ℕ
directory_of (existing d j i slash) = d
directory_of (missing d name slash) = d
directory_of nothing = 0

abbrev pub slot_of : View → Finding → ℕ
slot_of v (existing d j i slash) = j
slot_of v (missing d name slash) = free_slot v
slot_of v nothing = 0

abbrev pub inode_of : Finding → ℕ
inode_of (existing d j i slash) = i
inode_of (missing d name slash) = absent
inode_of nothing = absent

abbrev pub slash_of : Finding → Bool
slash_of (existing d j i slash) = slash
slash_of (missing d name slash) = slash
slash_of nothing = false

abbrev pub name_of : Finding → List ℕ
name_of (existing d j i slash) = []
name_of (missing d name slash) = name
name_of nothing = []

-- the case that both walks have found
abbrev pub case_of : View → Request → Ends → Case
case_of v q e = record {
  old = slot_of v e.old.found;
  new = slot_of v e.new.found;
  moved = inode_of e.old.found;
  replaced = inode_of e.new.found;
  from = directory_of e.old.found;
  into = directory_of e.new.found;
  slash = slash_of e.new.found;
  who = q.who;
  current = q.current;
}

-- rules 64a and 64b: what the flags ask of new's name: that it is missing, or that it exists
abbrev pub flag_rules : Request → Case → List Rule
flag_rules q c = refuse (asks_no_replace q && exists c) EEXIST ∷ refuse (asks_exchange q && not (exists c)) ENOENT ∷ []

-- rule 64c: and then the steps of an exchange, or those of a rename
abbrev pub case_rules : View → Request → Case → List Rule
case_rules v q c = flag_rules q c ++ cond (asks_exchange q) (exchange_steps v c) (steps v c)

module _ (s plan : List ℕ) (q : Request) (old new : List ℕ) where
  abbrev pub view : View
  view = view_of (shape_of s) s

  abbrev pub walks : Ends
  walks = walks_of view q old new

  -- what is asked before a walk begins
  abbrev pub early : List Rule
  early =
      refuse (ltb (length plan) plan_bytes) short_buffer
      ∷ refuse (not (layout_good s)) inconsistent
      ∷ refuse (not (journal_clear (shape_of s) s)) journal_pending
      ∷ refuse (not (bodies_good (shape_of s) s)) inconsistent
      ∷ refuse (not (request_good view q old new)) wrong_request
      ∷ refuse (not (flags_good q)) EINVAL
      ∷ []

  -- old's walk, new's walk, and what is asked of the case that they have found
  abbrev pub late : List Rule
  late =
      refuse (not (eqb walks.old.number 0)) walks.old.number
      ∷ refuse (not (eqb walks.new.number 0)) walks.new.number
      ∷ case_rules view q (case_of view q walks)

  unfoldable pub order : List Rule
  order = early ++ late
