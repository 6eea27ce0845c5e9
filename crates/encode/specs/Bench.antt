-- Records of the bench tree as the writers make them, by computation. Assumes nothing.
use Rattle.std.specs.Prelude.{◌≡◌, refl, [], ◌∷◌, replicate}
use Rattle.seq.specs.Bytes.{part, put}
use Rattle.seq.specs.Number.{bytes_of}
use Rattle.layout.specs.Limits.{absent}
use Rattle.layout.specs.BenchTree.{bench}
use Rattle.encode.specs.declared.journal.Journal.{Journal}
use Rattle.encode.specs.Entry.{entry_bytes, retargeted}
use Rattle.encode.specs.Journal.{journal_head, journal_bytes}

-- slot 3: the name f in directory 1, for inode 3
pub bench_entry : part bench 360 32 ≡ entry_bytes 32 1 3 (102 ∷ [])
unfolding bench part entry_bytes bytes_of
bench_entry = refl

-- slot 5, the name g in directory 2, with inode 3 as target
pub bench_retargeted : retargeted 3 (part bench 424 32) ≡ entry_bytes 32 2 3 (103 ∷ [])
unfolding bench part put entry_bytes bytes_of
bench_retargeted = refl

-- the rename of /a/f to /b/g at time 500: slots 3 and 5, inodes 3 and 4, old parent 1
abbrev rename : Journal
rename = record { kind = 0; old = 3; new = 5; moved = 3; replaced = 4; parent = 1; text = absent; time = 500 }

pub bench_journal : journal_bytes rename ≡ 1 ∷ 0 ∷ 3 ∷ 0 ∷ 5 ∷ 0 ∷ 3 ∷ 0 ∷ 4 ∷ 0 ∷ 1 ∷ 0 ∷ 255 ∷ 255 ∷ 0 ∷ 0 ∷ 244 ∷ 1 ∷ replicate 14 0
unfolding journal_bytes journal_head bytes_of
bench_journal = refl
