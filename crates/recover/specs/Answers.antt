-- The job's answer together with its buffers after it, and a draft that is ready to be settled. Assumes nothing.
use Rattle.std.specs.Prelude.{◌≡◌, Result, List, ℕ, Some}
use Rattle.std.specs.Result.{result_unwrap_or}
use Rattle.layout.specs.declared.Shape.{Shape}
use Rattle.layout.specs.declared.errno.Errno.{Errno}
use Rattle.layout.specs.Code.{code}
use Rattle.layout.specs.Facts.{Read}
use Rattle.plan.specs.declared.rows.Rows.{Rows}
use Rattle.drafts.specs.Draft.{draft}
use Rattle.rename_drafts.specs.Drafted.{Drafted}
use Rattle.recover.specs.Job.{Recovered}

-- The job answers so, with its count of rows where it is done, and leaves these buffers.
pub record RecoverAnswers (o : Recovered) (r : Result ℕ Errno) (plan scratch : List ℕ) : Type 0 where
  pub number : code r ≡ o.number
  pub rows : result_unwrap_or r 0 ≡ o.rows
  pub plan_is : plan ≡ o.plan
  pub scratch_is : scratch ≡ o.scratch

-- A draft of an image is ready to be settled.
pub record DraftReady (x : List ℕ) (h : Shape) (rows : Rows) : Type 0 where
  pub read : Read x h
  pub drafted : Drafted h (draft h x) (Some rows)
