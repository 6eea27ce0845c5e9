-- What a rename's plan rests on. Assumes nothing.
use Rattle.std.specs.Prelude.{◌≡◌, cond, List, ℕ}
use Rattle.layout.specs.Limits.{absent}
use Rattle.layout.specs.View.{View, entry_used}
use Rattle.edits.specs.Moved.{Allowed}
use Rattle.walk.specs.Both.{new_final}
use Rattle.walk.specs.Ends.{Missing}
use Rattle.refusals.specs.declared.case.Case.{Case}
use Rattle.refusals.specs.Case.{exists}

-- the name of the new entry: the one that its slot has, or the one that was missing
abbrev pub new_name : View → Case → List ℕ → List ℕ
new_name v c called = cond (exists c) (v.name c.new) called

-- What a rename that passes knows, whichever way new's walk ended.
pub record Granted (v : View) (c : Case) (called : List ℕ) : Type 0 where
  pub allowed : Allowed v c.old c.new c.moved c.from c.into (new_name v c called)
  -- the replaced inode is what slot new names, if that slot is in use
  pub replaced : c.replaced ≡ cond (entry_used v c.new) (v.target c.new) absent
  -- and else the name was missing
  pub missing : c.replaced ≡ absent → (called ≡ new_name v c called) × Missing v new_final c.into called
