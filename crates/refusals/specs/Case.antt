-- What steps 1 to 7 of the order of refusal ask of a case, each test by itself, so that another call can ask a part of them. A reader has to believe this file. Assumes nothing.
-- The papers' S, T, P and Q are `moved`, `replaced`, `from` and `into`.
use Rattle.std.specs.Prelude.{Bool, ◌&&◌, ◌||◌, not, ℕ, ◌/◌, ◌%◌, eqb}
use Rattle.layout.specs.Limits.{absent, sticky_bit}
use Rattle.layout.specs.Fields.{read_only}
use Rattle.layout.specs.View.{View, is_directory}
use Rattle.tree.specs.Tree.{reaches}
use Rattle.paths.specs.declared.request.Credentials.{Credentials}
use Rattle.paths.specs.Permission.{write_bit, allows}
use Rattle.refusals.specs.declared.case.Case.{Case}

-- new's name exists
abbrev pub exists : Case → Bool
exists c = not (eqb c.replaced absent)

-- rule 65, step 1: both names are of one file
abbrev pub same_file : Case → Bool
same_file c = eqb c.moved c.replaced

module _ (v : View) where
  -- rule 66, step 2: a parent is on a read-only file system
  abbrev pub read_only_parent : Case → Bool
  read_only_parent c = read_only (v.system c.from) || read_only (v.system c.into)

  -- rule 67, step 3: the parents are on different file systems
  abbrev pub other_system : Case → Bool
  other_system c = not (eqb (v.system c.from) (v.system c.into))

  -- rule 68, step 4: a directory that is on another file system than the directory d that holds it
  abbrev pub mounted_in : ℕ → ℕ → Bool
  mounted_in d i = is_directory v i && not (eqb (v.system i) (v.system d))

  abbrev pub mounted : Case → Bool
  mounted c = mounted_in c.from c.moved || mounted_in c.into c.replaced

  -- rule 69, step 5: write permission is denied on a parent
  abbrev pub may_write : Credentials → ℕ → Bool
  may_write who i = allows v who i write_bit

  abbrev pub parent_denied : Case → Bool
  parent_denied c = not (may_write c.who c.from) || not (may_write c.who c.into)

  -- rule 70, step 6: the sticky bit of directory d keeps the caller from inode i in it
  abbrev pub sticky : ℕ → Bool
  sticky d = eqb (v.mode d / sticky_bit % 2) 1

  abbrev pub owns : Credentials → ℕ → Bool
  owns who i = eqb who.user (v.owner i)

  unfoldable pub sticky_denied : Credentials → ℕ → ℕ → Bool
  sticky_denied who d i = sticky d && not (eqb who.user 0 || owns who i || owns who d)

  -- on the old side it is asked of the moved inode in its parent; rule 70a: on the new side of the replaced one, if there is one, in the new parent
  abbrev pub moved_stuck : Case → Bool
  moved_stuck c = sticky_denied c.who c.from c.moved

  abbrev pub replaced_stuck : Case → Bool
  replaced_stuck c = exists c && sticky_denied c.who c.into c.replaced

  -- rule 71, step 7: the moved inode is the new parent, or above it
  abbrev pub inside_itself : Case → Bool
  inside_itself c = reaches v c.moved v.inodes c.into
