-- A case whose numbers name inodes in use: what the code relies on when it reads them. Assumes nothing.
use Rattle.std.specs.Prelude.{◌≡◌, ◌≢◌, true}
use Rattle.layout.specs.Limits.{absent}
use Rattle.layout.specs.View.{View, is_directory, is_used}
use Rattle.refusals.specs.declared.case.Case.{Case}

-- A case whose numbers name inodes in use: what the code relies on when it reads them.
pub record CaseIn (v : View) (c : Case) : Type 0 where
  pub moved : is_used v c.moved ≡ true
  pub from : is_directory v c.from ≡ true
  pub into : is_directory v c.into ≡ true
  pub replaced : c.replaced ≢ absent → is_used v c.replaced ≡ true
