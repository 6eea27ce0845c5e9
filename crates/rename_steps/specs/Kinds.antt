-- Types that fit each other (step 8), as facts. Assumes nothing.
use Rattle.std.specs.Prelude.{◌≡◌, false}
use Rattle.layout.specs.View.{View}
use Rattle.refusals.specs.declared.case.Case.{Case}
use Rattle.rename_steps.specs.Tests.{replaces_other, replaces_directory, slashed_file}

-- Step 8 refuses nothing.
pub record TypesFit (v : View) (c : Case) : Type 0 where
  pub other : replaces_other v c ≡ false
  pub directory : replaces_directory v c ≡ false
  pub slashed : slashed_file v c ≡ false
