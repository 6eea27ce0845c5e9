-- Demand 1: every job, given any bytes, answers with a number of the table, and with one that the table has for it. A reader has to believe this file. Assumes nothing.
use Rattle.std.specs.Prelude.{◌≡◌, Bool, true, false, ◌||◌, List, [], ◌∷◌, ℕ, eqb}
use Rattle.layout.specs.Errno.{EPERM, ENOENT, EBADF, EACCES, EBUSY, EEXIST, EXDEV, ENOTDIR, EISDIR, EINVAL, ENOSPC, EROFS, EMLINK, ENAMETOOLONG, ENOTEMPTY, ELOOP, inconsistent, wrong_request, journal_pending, not_recoverable, short_buffer, bad_row}
use Rattle.consistency.specs.Consistent.{check_number}
use Rattle.paths.specs.declared.request.Request.{Request}
use Rattle.apply.specs.Apply.{apply_number}
use Rattle.rename.specs.Job.{renamed}
use Rattle.recover.specs.Job.{recovered}

-- a number of a list
abbrev pub among : List ℕ → ℕ → Bool
among [] n = false
among (m ∷ ms) n = eqb n m || among ms n

-- the numbers of each job
abbrev pub check_numbers : List ℕ
check_numbers = 0 ∷ inconsistent ∷ journal_pending ∷ []

abbrev pub land_numbers : List ℕ
land_numbers = 0 ∷ inconsistent ∷ short_buffer ∷ bad_row ∷ []

-- success, the errors of the POSIX page as Linux numbers them, and our own
abbrev pub rename_numbers : List ℕ
rename_numbers = 0 ∷ EPERM ∷ ENOENT ∷ EBADF ∷ EACCES ∷ EBUSY ∷ EEXIST ∷ EXDEV ∷ ENOTDIR ∷ EISDIR ∷ EINVAL ∷ ENOSPC ∷ EROFS ∷ EMLINK ∷ ENAMETOOLONG ∷ ENOTEMPTY ∷ ELOOP ∷ inconsistent ∷ wrong_request ∷ journal_pending ∷ short_buffer ∷ []

abbrev pub repair_numbers : List ℕ
repair_numbers = 0 ∷ inconsistent ∷ not_recoverable ∷ short_buffer ∷ []

pub record Demand1 : Type 0 where
  pub check : (image : List ℕ) → among check_numbers (check_number image) ≡ true
  pub land : (image plan : List ℕ) (row : ℕ) → among land_numbers (apply_number image plan row) ≡ true
  pub rename : (image plan : List ℕ) (q : Request) (old new : List ℕ) → among rename_numbers (renamed image plan q old new).number ≡ true
  pub repair : (plan scratch image : List ℕ) → among repair_numbers (recovered plan scratch image).number ≡ true
