-- What a good request gives. Assumes nothing.
use Rattle.std.specs.Prelude.{◌≡◌, true, ◌&&◌, List, ℕ, leb}
use Rattle.std.proofs.Math.Bool.{and-true}
use Rattle.seq.specs.Bytes.{no_zero}
use Rattle.seq.specs.Truth.{and_left, and_right}
use Rattle.layout.specs.Limits.{group_limit}
use Rattle.layout.specs.View.{View, is_directory}
use Rattle.paths.specs.declared.request.Request.{Request}
use Rattle.paths.specs.Request.{request_good}

module _ (v : View) (q : Request) (old new : List ℕ) (good : request_good v q old new ≡ true) where
  paths_good : (is_directory v q.current && no_zero old && no_zero new) ≡ true
  unfolding request_good
  paths_good = and_left _ (leb q.who.count group_limit) good

  pub good_current : is_directory v q.current ≡ true
  good_current = and_left _ (no_zero old) (and_left (is_directory v q.current && no_zero old) _ paths_good)

  pub good_old : no_zero old ≡ true
  good_old = and_right (is_directory v q.current) _ (and_left (is_directory v q.current && no_zero old) _ paths_good)

  pub good_new : no_zero new ≡ true
  good_new = and_right (is_directory v q.current && no_zero old) _ paths_good

-- rule 42 as it reads without further groups
pub request_alone : (v : View) (q : Request) (old new : List ℕ) → q.who.count ≡ 0 → request_good v q old new ≡ (is_directory v q.current && no_zero old && no_zero new)
unfolding request_good
request_alone v q old new none = rw (none, and-true)
