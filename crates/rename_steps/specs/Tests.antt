-- What steps 8 to 13 of the order of refusal ask of a case, each test by itself, so that another call can ask a part of them. A reader has to believe this file. Assumes nothing.
-- The papers' S, T, P and Q are `moved`, `replaced`, `from` and `into`.
use Rattle.std.specs.Prelude.{Bool, ◌&&◌, ◌||◌, not, ℕ, eqb, leb}
use Rattle.seq.specs.Search.{any}
use Rattle.layout.specs.Limits.{link_limit}
use Rattle.layout.specs.View.{View, is_directory, entry_used, handle_open}
use Rattle.tree.specs.Tree.{entries_of}
use Rattle.refusals.specs.declared.case.Case.{Case}
use Rattle.refusals.specs.Case.{exists, may_write}

module _ (v : View) where
  -- rule 72, step 8: a directory is to replace what is none; what is none a directory; or its name is to end in a slash
  abbrev pub replaces_other : Case → Bool
  replaces_other c = is_directory v c.moved && exists c && not (is_directory v c.replaced)

  abbrev pub replaces_directory : Case → Bool
  replaces_directory c = not (is_directory v c.moved) && is_directory v c.replaced

  abbrev pub slashed_file : Case → Bool
  slashed_file c = not (is_directory v c.moved) && not (exists c) && c.slash

  -- rule 73, step 9: write permission is denied on a directory that gets another parent
  abbrev pub reparents : Case → Bool
  reparents c = is_directory v c.moved && not (eqb c.from c.into)

  abbrev pub moved_denied : Case → Bool
  moved_denied c = reparents c && not (may_write v c.who c.moved)

  -- rule 74, step 10: the replaced directory has entries
  abbrev pub entry_in : ℕ → ℕ → Bool
  entry_in d j = entry_used v j && eqb (v.parent j) d

  unfoldable pub has_entries : ℕ → Bool
  has_entries d = any (entry_in d) v.entries

  abbrev pub not_empty : Case → Bool
  not_empty c = is_directory v c.replaced && has_entries c.replaced

  -- rule 75, step 11: the replaced inode would lose its last entry, and is the current directory or under an open handle
  abbrev pub open_on : ℕ → ℕ → Bool
  open_on i n = handle_open v n && eqb (v.opened n) i

  unfoldable pub is_opened : ℕ → Bool
  is_opened i = any (open_on i) v.handles

  abbrev pub busy : Case → Bool
  busy c = exists c && eqb (entries_of v c.replaced) 1 && (eqb c.replaced c.current || is_opened c.replaced)

  -- rule 76, step 12: the new parent has as many links as there may be, and would get one more
  abbrev pub full_parent : Case → Bool
  full_parent c = reparents c && not (exists c) && eqb (v.links c.into) link_limit

  -- rule 77, step 13: no entry is free
  abbrev pub no_slot : Case → Bool
  no_slot c = not (exists c) && leb v.entries c.new
