-- What the bytes of an inode, an entry and a journal record say, as facts. Assumes nothing.
use Rattle.std.specs.Prelude.{◌≡◌, true, List, ℕ, ◌+◌, ◌-◌, ◌≤◌, ◌<◌, length}
use Rattle.seq.specs.Bytes.{part, zeros}
use Rattle.seq.specs.Number.{span}
use Rattle.layout.specs.Fields.{inode_kind, inode_system, inode_mode, inode_owner, inode_group, inode_links, inode_field, inode_modified, inode_changed, entry_parent, entry_target, entry_name_length, entry_name}
use Rattle.encode.specs.declared.journal.Journal.{Journal}

-- The bytes x are an inode's, and have the fields in front of the link count as r has them.
pub record Head (r x : List ℕ) : Type 0 where
  pub long : length x ≡ 32
  -- these fields in one piece, and each
  pub front : part x 0 12 ≡ part r 0 12
  pub kind : inode_kind x ≡ inode_kind r
  pub system : inode_system x ≡ inode_system r
  pub mode : inode_mode x ≡ inode_mode r
  pub owner : inode_owner x ≡ inode_owner r
  pub group : inode_group x ≡ inode_group r

-- Besides, they have these as link count, field, and times of modification and change.
pub record Says (r x : List ℕ) (n f m c : ℕ) : Type 0 where
  pub head : Head r x
  pub links : inode_links x ≡ n
  pub field : inode_field x ≡ f
  pub modified : inode_modified x ≡ m
  pub changed : inode_changed x ≡ c

-- The bytes x are an entry's, with parent p, target t and name n, and zeros where they belong.
pub record Names (x : List ℕ) (width p t : ℕ) (n : List ℕ) : Type 0 where
  pub long : length x ≡ width
  pub fits : 8 + length n ≤ width
  pub parent : entry_parent x ≡ p
  pub target : entry_target x ≡ t
  pub name_length_lem : entry_name_length x ≡ length n
  pub name : entry_name x ≡ n
  -- the three bytes behind the length, and those behind the name
  pub padded : zeros x 5 3 ≡ true
  pub filled : zeros x (8 + length n) (width - 8 - length n) ≡ true

-- The numbers fit their fields.
pub record InRange (j : Journal) : Type 0 where
  pub kind : j.kind < 256
  pub old : j.old < 65536
  pub new : j.new < 65536
  pub moved : j.moved < 65536
  pub replaced : j.replaced < 65536
  pub parent : j.parent < 65536
  pub text : j.text < 65536
  pub time : j.time < span 8
