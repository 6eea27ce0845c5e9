-- Where a path begins: nowhere, or in a directory, with search permission waived for the first component or not; and what the code hands out of it. A
-- reader has to believe this file. Assumes nothing.
use Rattle.std.specs.Prelude.{Bool, ℕ, Option, Some, None}
use Rattle.walk.specs.declared.start.Start as code

pub data Start : Type 0 where
  Closed : Start
  At : ℕ → Bool → Start

abbrev pub begins : Option code.Start → Start
begins None = Closed
begins (Some s) = At s.directory s.waived
