-- What C hands over and gets back: the parts of a request, and the job's answer as one number, each part in bits of its own. A reader has to believe this
-- file. Assumes nothing.
use Rattle.std.specs.Prelude.{◌≡◌, List, ℕ, ◌+◌, ◌*◌, ◌/◌, ◌%◌, ◌<◌}
use Rattle.paths.specs.declared.request.Request.{Request}
use Rattle.paths.specs.Groups.{credentials_of}
use Rattle.rename.specs.Renamed.{Renamed}
use Rattle.recover.specs.Job.{Recovered}

-- the parts in the order of the function's arguments
abbrev pub request_of : ℕ → ℕ → List ℕ → ℕ → ℕ → ℕ → ℕ → ℕ → Request
request_of user group groups current old new time flags = record {
  who = credentials_of user group groups;
  current = current;
  starts = record { old = old; new = new };
  now = time;
  flags = flags;
}

-- bits 0 to 7 the number, 8 to 15 the rows, 16 to 31 old's count, 32 to 47 new's
unfoldable pub packed : Renamed → ℕ
packed r = r.number + 256 * r.rows + 65536 * r.old + 4294967296 * r.new

-- an answer of recovery has no walks
abbrev pub without_walks : Recovered → Renamed
without_walks r = record { number = r.number; rows = r.rows; old = 0; new = 0 }

-- The parts as the header's accessors take them out; nothing stands above them.
pub record Parts (n : ℕ) (r : Renamed) : Type 0 where
  pub number : n % 256 ≡ r.number
  pub rows : n / 256 % 256 ≡ r.rows
  pub old : n / 65536 % 65536 ≡ r.old
  pub new : n / 4294967296 % 65536 ≡ r.new
  pub rest : n < 281474976710656
