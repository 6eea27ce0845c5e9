-- `paths::groups::credentials` meets its contract. Assumes nothing.
use Rattle.std.specs.Prelude.{replicate}
use Rattle.std.proofs.Common.{arith}
use Rattle.seq.proofs.SliceLaws.{put_up_to}
use Rattle.paths.proofs.GroupLaws.{credentials_read, credentials_unread}
use Rattle.paths.proofs.groups.credentials.Goals as goal

pub returns-then-list-le-GROUP_LIMIT : goal.returns-then-list-le-GROUP_LIMIT
returns-then-list-le-GROUP_LIMIT c =
    credentials_read _ _ _ c.if-list-le-GROUP_LIMIT.true
    (put_up_to (replicate 16 0) _ c.args.list.now c.copy_from_slice.ensures.after (omega arith))

pub returns-else-list-le-GROUP_LIMIT : goal.returns-else-list-le-GROUP_LIMIT
returns-else-list-le-GROUP_LIMIT c = credentials_unread _ _ _ (omega arith)
