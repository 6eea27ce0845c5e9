-- `inodes::good` meets its contract. Assumes nothing.
use Rattle.std.proofs.Common.{sym, ◌∙◌, ap, arith}
use Rattle.seq.specs.Bytes.{zeros}
use Rattle.layout.specs.View.{view_of}
use Rattle.layout.proofs.KindLaws.{record_kind, record_unknown}
use Rattle.layout.proofs.ViewLaws.{is_kind_lem}
use Rattle.tree.specs.Inode.{inode_good}
use Rattle.tree.proofs.InodeTests.{kind_free, kind_file, kind_directory, kind_symlink, kind_none}
use Rattle.inodes.proofs.good.Goals as goal

pub directory_good-requires : goal.directory_good-requires
unfolding view_of
directory_good-requires c =
    let image = c.args.tallies.now.image in
    (c.requires, is_kind_lem image.shape image.bytes.now c.args.i 2 c.requires (record_kind c.inode-r.ensures c.in-Directory.ensures))

pub returns-in-Free : goal.returns-in-Free
unfolding inode_good view_of
returns-in-Free c =
    c.all_zero.ensures ∙ ap (λ x. zeros x 0 32) c.inode-r.ensures.is ∙ sym (kind_free _ _ _ _ _ (record_kind c.inode-r.ensures c.in-Free.ensures))

pub returns-in-File : goal.returns-in-File
unfolding inode_good view_of
returns-in-File c = c.file_good.ensures ∙ sym (kind_file _ _ _ _ _ (record_kind c.inode-r.ensures c.in-File.ensures))

pub returns-in-Directory : goal.returns-in-Directory
unfolding inode_good view_of
returns-in-Directory c = c.directory_good.ensures ∙ sym (kind_directory _ _ _ _ _ (record_kind c.inode-r.ensures c.in-Directory.ensures))

pub returns-in-Symlink : goal.returns-in-Symlink
unfolding inode_good view_of
returns-in-Symlink c = c.symlink_good.ensures ∙ sym (kind_symlink _ _ _ _ _ (record_kind c.inode-r.ensures c.in-Symlink.ensures))

pub returns-in-Unknown : goal.returns-in-Unknown
unfolding inode_good view_of
returns-in-Unknown c =
    let none = record_unknown c.inode-r.ensures c.in-Unknown.ensures in
    sym (kind_none _ _ _ _ _ (none 0 (omega arith)) (none 1 (omega arith)) (none 2 (omega arith)) (none 3 (omega arith)))
