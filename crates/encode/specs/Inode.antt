-- An inode with a field written anew (form D). A reader has to believe this file. Assumes nothing.
use Rattle.std.specs.Prelude.{List, ℕ}
use Rattle.seq.specs.Bytes.{put}
use Rattle.seq.specs.Number.{bytes_of}

-- form D: an inode with another link count, field, time of modification, time of change
abbrev pub with_links : ℕ → List ℕ → List ℕ
with_links n r = put r 12 (bytes_of 2 n)

abbrev pub with_field : ℕ → List ℕ → List ℕ
with_field n r = put r 14 (bytes_of 2 n)

abbrev pub with_modified : ℕ → List ℕ → List ℕ
with_modified time r = put r 16 (bytes_of 8 time)

abbrev pub with_changed : ℕ → List ℕ → List ℕ
with_changed time r = put r 24 (bytes_of 8 time)
