-- No refusal has the number 0, and an answer of number 0 is no refusal. Assumes nothing.
use Rattle.std.specs.Prelude.{◌≡◌, refl, true, false, Result, Ok, Err, is_err}
use Rattle.std.proofs.Common.{sym, arith}
use Rattle.std.proofs.lemmas.Bool.{false≢true}
use Rattle.layout.specs.declared.errno.Errno.{Errno}
use Rattle.layout.specs.declared.errno.Errno.TheVariants as errno
use Rattle.layout.specs.Code.{number, code}

pub refusal_numbered : (e : Errno) → number e ≡ 0 → ⊥
refusal_numbered errno.EPERM is = omega arith
refusal_numbered errno.ENOENT is = omega arith
refusal_numbered errno.EBADF is = omega arith
refusal_numbered errno.EACCES is = omega arith
refusal_numbered errno.EBUSY is = omega arith
refusal_numbered errno.EEXIST is = omega arith
refusal_numbered errno.EXDEV is = omega arith
refusal_numbered errno.ENOTDIR is = omega arith
refusal_numbered errno.EISDIR is = omega arith
refusal_numbered errno.EINVAL is = omega arith
refusal_numbered errno.ENOSPC is = omega arith
refusal_numbered errno.EROFS is = omega arith
refusal_numbered errno.EMLINK is = omega arith
refusal_numbered errno.ENAMETOOLONG is = omega arith
refusal_numbered errno.ENOTEMPTY is = omega arith
refusal_numbered errno.ELOOP is = omega arith
refusal_numbered errno.Inconsistent is = omega arith
refusal_numbered errno.WrongRequest is = omega arith
refusal_numbered errno.JournalPending is = omega arith
refusal_numbered errno.NotRecoverable is = omega arith
refusal_numbered errno.ShortBuffer is = omega arith
refusal_numbered errno.BadRow is = omega arith

-- a refusal has a number, and what is done has none
pub err_numbered : {A : Type 0} (r : Result A Errno) → is_err r ≡ true → code r ≡ 0 → ⊥
err_numbered (Ok a) e is = absurd (false≢true e)
err_numbered (Err why) e is = refusal_numbered why is

pub ok_numbered : {A : Type 0} (r : Result A Errno) → is_err r ≡ false → code r ≡ 0
ok_numbered (Ok a) e = refl
ok_numbered (Err why) e = absurd (false≢true (sym e))
