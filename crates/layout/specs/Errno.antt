-- The numbers that a job returns: the errors of POSIX under their names, numbered as on Linux, and our own. A reader has to believe this
-- file. Assumes nothing.
use Rattle.std.specs.Prelude.{ℕ}

-- ---- a walk, or the call itself, is refused

abbrev pub EPERM : ℕ
EPERM = 1

abbrev pub ENOENT : ℕ
ENOENT = 2

abbrev pub EBADF : ℕ
EBADF = 9

abbrev pub EACCES : ℕ
EACCES = 13

abbrev pub EBUSY : ℕ
EBUSY = 16

abbrev pub EEXIST : ℕ
EEXIST = 17

abbrev pub EXDEV : ℕ
EXDEV = 18

abbrev pub ENOTDIR : ℕ
ENOTDIR = 20

abbrev pub EISDIR : ℕ
EISDIR = 21

abbrev pub EINVAL : ℕ
EINVAL = 22

abbrev pub ENOSPC : ℕ
ENOSPC = 28

abbrev pub EROFS : ℕ
EROFS = 30

abbrev pub EMLINK : ℕ
EMLINK = 31

abbrev pub ENAMETOOLONG : ℕ
ENAMETOOLONG = 36

abbrev pub ENOTEMPTY : ℕ
ENOTEMPTY = 39

abbrev pub ELOOP : ℕ
ELOOP = 40

-- ---- what a job was given cannot be used

-- an image that is not consistent (the papers' unsound), or has no good layout
abbrev pub inconsistent : ℕ
inconsistent = 201

-- a request whose current directory is none, or with a zero byte in a path
abbrev pub wrong_request : ℕ
wrong_request = 202

-- a journal record that is not zero: the image has to be recovered first
abbrev pub journal_pending : ℕ
journal_pending = 203

-- a journal record that fits no operation, or an outcome that is not consistent
abbrev pub not_recoverable : ℕ
not_recoverable = 204

-- a buffer that is too short
abbrev pub short_buffer : ℕ
short_buffer = 205

-- a row that cannot be applied
abbrev pub bad_row : ℕ
bad_row = 207
