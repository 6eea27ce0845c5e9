-- A request's own check (rule 42). A reader has to believe this file. Assumes nothing.
use Rattle.std.specs.Prelude.{Bool, ◌&&◌, List, ℕ, leb}
use Rattle.seq.specs.Bytes.{no_zero}
use Rattle.layout.specs.Limits.{group_limit}
use Rattle.layout.specs.View.{View, is_directory}
use Rattle.paths.specs.declared.request.Request.{Request}

-- rule 42: the current directory is a directory, no path holds a zero byte, and there are no more further groups than may be
unfoldable pub request_good : View → Request → List ℕ → List ℕ → Bool
request_good v q old new = is_directory v q.current && no_zero old && no_zero new && leb q.who.count group_limit
