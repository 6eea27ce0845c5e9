-- The inodes that a rename leaves: the ways out of making one, and every field read back from it. Assumes nothing.
use Rattle.std.specs.Prelude.{◌≡◌, ◌≢◌, List, ℕ, ◌<◌, length}
use Rattle.std.proofs.Common.{eq-eqb, ne_eqb}
use Rattle.seq.specs.Number.{span}
use Rattle.layout.specs.declared.Shape.{Shape}
use Rattle.layout.specs.Fields.{inode_kind, inode_links, inode_field, inode_modified}
use Rattle.encode.specs.Inode.{with_links, with_field, with_changed}
use Rattle.encode.specs.Facts.{Says}
use Rattle.encode.specs.InodeLaws.{says_itself, says_links, says_field, says_modified, says_changed}
use Rattle.results.specs.Results.{free_record, moved_bytes, holder_bytes, replaced_bytes}

-- ---- the ways out

pub moved_directory : (into time : ℕ) (r : List ℕ) → inode_kind r ≡ 2 → moved_bytes into time r ≡ with_field into (with_changed time r)
unfolding moved_bytes
moved_directory into time r e = rw (eq-eqb _ _ e)

pub moved_other : (into time : ℕ) (r : List ℕ) → inode_kind r ≢ 2 → moved_bytes into time r ≡ with_changed time r
unfolding moved_bytes
moved_other into time r n = rw (ne_eqb _ _ n)

pub replaced_freed : (h : Shape) (left links time : ℕ) (r : List ℕ) → left ≡ 0 → replaced_bytes h left links time r ≡ free_record h 0
unfolding replaced_bytes
replaced_freed h left links time r e = rw (eq-eqb _ _ e)

pub replaced_kept : (h : Shape) (left links time : ℕ) (r : List ℕ) → left ≢ 0 → replaced_bytes h left links time r ≡ with_changed time (with_links links r)
unfolding replaced_bytes
replaced_kept h left links time r n = rw (ne_eqb _ _ n)

-- ---- what is read back

module _ (r : List ℕ) (long : length r ≡ 32) (time : ℕ) (small : time < span 8) where
  pub moved_directory_says : (into : ℕ) → into < 65536 → inode_kind r ≡ 2 → Says r (moved_bytes into time r) (inode_links r) into (inode_modified r) time
  moved_directory_says into l e = rw (moved_directory into time r e) (says_field (says_changed (says_itself r long) time small) into l)

  pub moved_other_says : (into : ℕ) → inode_kind r ≢ 2 → Says r (moved_bytes into time r) (inode_links r) (inode_field r) (inode_modified r) time
  moved_other_says into n = rw (moved_other into time r n) (says_changed (says_itself r long) time small)

  pub holder_says : (links : ℕ) → links < 65536 → Says r (holder_bytes links time r) links (inode_field r) time time
  unfolding holder_bytes
  holder_says links l = says_changed (says_modified (says_links (says_itself r long) links l) time small) time small

  pub replaced_says : (h : Shape) (left links : ℕ) → left ≢ 0 → links < 65536 → Says r (replaced_bytes h left links time r) links (inode_field r) (inode_modified r) time
  replaced_says h left links n l = rw (replaced_kept h left links time r n) (says_changed (says_links (says_itself r long) links l) time small)
