-- The number of a refusal, and of a job's answer: 0 where it is done. A reader has to believe this file. Assumes nothing.
use Rattle.std.specs.Prelude.{◌≡◌, refl, Result, Ok, Err, ℕ}
use Rattle.layout.specs.declared.errno.Errno.{Errno}
use Rattle.layout.specs.declared.errno.Errno.TheVariants as errno
use Rattle.layout.specs.Errno as linux

abbrev pub number : Errno → ℕ
number errno.EPERM = linux.EPERM
number errno.ENOENT = linux.ENOENT
number errno.EBADF = linux.EBADF
number errno.EACCES = linux.EACCES
number errno.EBUSY = linux.EBUSY
number errno.EEXIST = linux.EEXIST
number errno.EXDEV = linux.EXDEV
number errno.ENOTDIR = linux.ENOTDIR
number errno.EISDIR = linux.EISDIR
number errno.EINVAL = linux.EINVAL
number errno.ENOSPC = linux.ENOSPC
number errno.EROFS = linux.EROFS
number errno.EMLINK = linux.EMLINK
number errno.ENAMETOOLONG = linux.ENAMETOOLONG
number errno.ENOTEMPTY = linux.ENOTEMPTY
number errno.ELOOP = linux.ELOOP
number errno.Inconsistent = linux.inconsistent
number errno.WrongRequest = linux.wrong_request
number errno.JournalPending = linux.journal_pending
number errno.NotRecoverable = linux.not_recoverable
number errno.ShortBuffer = linux.short_buffer
number errno.BadRow = linux.bad_row

-- the number of what a job answers, whatever it hands out where it is done
abbrev pub code : {A : Type 0} → Result A Errno → ℕ
code (Ok a) = 0
code (Err e) = number e
