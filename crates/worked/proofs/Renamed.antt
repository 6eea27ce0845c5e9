-- The results of five renames of the bench tree, by computation. Assumes nothing.
use Rattle.std.specs.Prelude.{◌≡◌, refl, List, [], ◌∷◌, map, ℕ, length, drop}
use Rattle.seq.specs.Search.{count}
use Rattle.seq.specs.Bytes.{part, put}
use Rattle.seq.specs.Number.{number_at, bytes_of}
use Rattle.layout.specs.declared.Shape.{Shape}
use Rattle.layout.specs.Limits.{absent}
use Rattle.layout.specs.Place.{place}
use Rattle.layout.specs.Contents.{shape_of}
use Rattle.layout.specs.Record.{record_at}
use Rattle.layout.specs.Fields.{inode_links, inode_field, inode_modified, inode_changed}
use Rattle.layout.specs.View.{view_of}
use Rattle.layout.specs.BenchTree.{bench}
use Rattle.plan.specs.Write.{Write}
use Rattle.recounts.specs.declared.Move.{Move}
use Rattle.recounts.specs.Recount.{entries_after, children_after, links_after}
use Rattle.results.specs.Results.{moved_bytes, holder_bytes, replaced_bytes, results}

abbrev h : Shape
h = shape_of bench

-- at time 500: `/a/f` to `/a/k`, `/a/f` to `/b/g`, `/a/d` to `/b/e/`, `/b/g` to `/b/h`, `/a/f` to `/s`
abbrev moves : List Move
moves =
    record { old = 3; new = 7; moved = 3; from = 1; into = 1; replaced = absent; text = absent; now = 500 }
    ∷ record { old = 3; new = 5; moved = 3; from = 1; into = 2; replaced = 4; text = absent; now = 500 }
    ∷ record { old = 4; new = 7; moved = 5; from = 1; into = 2; replaced = absent; text = absent; now = 500 }
    ∷ record { old = 5; new = 6; moved = 4; from = 2; into = 2; replaced = 3; text = absent; now = 500 }
    ∷ record { old = 3; new = 2; moved = 3; from = 1; into = 0; replaced = 6; text = 0; now = 500 }
    ∷ []

-- group, length and offset of each row
abbrev shown : Write → List ℕ
shown w = w.group ∷ length w.body ∷ place h w.key.section w.key.index ∷ []

pub bench_rows : map (λ m. map shown (results h bench m)) moves ≡
    ((3 ∷ 32 ∷ 360 ∷ []) ∷ (3 ∷ 32 ∷ 136 ∷ []) ∷ (3 ∷ 32 ∷ 72 ∷ []) ∷ [])
    ∷ ((3 ∷ 32 ∷ 360 ∷ []) ∷ (3 ∷ 32 ∷ 136 ∷ []) ∷ (3 ∷ 32 ∷ 72 ∷ []) ∷ (3 ∷ 32 ∷ 104 ∷ []) ∷ (3 ∷ 32 ∷ 168 ∷ []) ∷ [])
    ∷ ((3 ∷ 32 ∷ 392 ∷ []) ∷ (3 ∷ 32 ∷ 200 ∷ []) ∷ (3 ∷ 32 ∷ 72 ∷ []) ∷ (3 ∷ 32 ∷ 104 ∷ []) ∷ [])
    ∷ ((3 ∷ 32 ∷ 424 ∷ []) ∷ (3 ∷ 32 ∷ 168 ∷ []) ∷ (3 ∷ 32 ∷ 104 ∷ []) ∷ (3 ∷ 32 ∷ 136 ∷ []) ∷ [])
    ∷ ((3 ∷ 32 ∷ 360 ∷ []) ∷ (3 ∷ 32 ∷ 136 ∷ []) ∷ (3 ∷ 32 ∷ 72 ∷ []) ∷ (3 ∷ 32 ∷ 40 ∷ []) ∷ (3 ∷ 32 ∷ 232 ∷ []) ∷ (3 ∷ 64 ∷ 520 ∷ []) ∷ [])
    ∷ []
unfolding bench count part put number_at bytes_of shape_of record_at view_of moved_bytes holder_bytes replaced_bytes entries_after children_after links_after results
bench_rows = refl

-- link count, field and both times of each record that they write behind the old entry
abbrev written : Write → List ℕ
written w = inode_links w.body ∷ inode_field w.body ∷ inode_modified w.body ∷ inode_changed w.body ∷ []

pub bench_results : map (λ m. map written (drop 1 (results h bench m))) moves ≡
    ((2 ∷ 0 ∷ 100 ∷ 500 ∷ []) ∷ (3 ∷ 0 ∷ 500 ∷ 500 ∷ []) ∷ [])
    ∷ ((2 ∷ 0 ∷ 100 ∷ 500 ∷ []) ∷ (3 ∷ 0 ∷ 500 ∷ 500 ∷ []) ∷ (2 ∷ 0 ∷ 500 ∷ 500 ∷ []) ∷ (0 ∷ 0 ∷ 0 ∷ 0 ∷ []) ∷ [])
    ∷ ((2 ∷ 2 ∷ 100 ∷ 500 ∷ []) ∷ (2 ∷ 0 ∷ 500 ∷ 500 ∷ []) ∷ (3 ∷ 0 ∷ 500 ∷ 500 ∷ []) ∷ [])
    ∷ ((1 ∷ 0 ∷ 100 ∷ 500 ∷ []) ∷ (2 ∷ 0 ∷ 500 ∷ 500 ∷ []) ∷ (1 ∷ 0 ∷ 100 ∷ 500 ∷ []) ∷ [])
    ∷ ((2 ∷ 0 ∷ 100 ∷ 500 ∷ []) ∷ (3 ∷ 0 ∷ 500 ∷ 500 ∷ []) ∷ (4 ∷ 0 ∷ 500 ∷ 500 ∷ []) ∷ (0 ∷ 0 ∷ 0 ∷ 0 ∷ []) ∷ (0 ∷ 0 ∷ 0 ∷ 0 ∷ []) ∷ [])
    ∷ []
unfolding bench count part put number_at bytes_of shape_of record_at view_of moved_bytes holder_bytes replaced_bytes entries_after children_after links_after results
bench_results = refl
