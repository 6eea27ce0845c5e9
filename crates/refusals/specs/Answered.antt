-- How a call is answered: refused by a number, nothing to do since both names are of one file, planned as a rename, or as an exchange; and what the code
-- hands out of it. A reader has to believe this file. Assumes nothing.
use Rattle.std.specs.Prelude.{Result, Ok, Err, ℕ}
use Rattle.layout.specs.declared.errno.Errno.{Errno}
use Rattle.layout.specs.Code.{number}
use Rattle.refusals.specs.declared.case.Verdict.{Verdict}
use Rattle.refusals.specs.declared.case.Verdict.TheVariants as verdict

pub data Answer : Type 0 where
  Refused : ℕ → Answer
  Same : Answer
  Planned : Answer
  Exchanged : Answer

abbrev pub answered : Result Verdict Errno → Answer
answered (Err e) = Refused (number e)
answered (Ok verdict.Same) = Same
answered (Ok verdict.Planned) = Planned
answered (Ok verdict.Exchanged) = Exchanged
