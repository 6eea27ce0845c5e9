-- The last way out of the test of the flags. Assumes nothing.
use Rattle.std.specs.Prelude.{◌≡◌, ◌≢◌, eqb}
use Rattle.std.proofs.Common.{ne_eqb}
use Rattle.paths.specs.declared.request.Request.{Request}
use Rattle.paths.specs.Flags.{no_replace_flag, exchange_flag, flags_good}

pub flags_last : (q : Request) → q.flags ≢ 0 → q.flags ≢ no_replace_flag → eqb q.flags exchange_flag ≡ flags_good q
unfolding flags_good
flags_last q plain replace = rw (ne_eqb _ _ plain, ne_eqb _ _ replace)
