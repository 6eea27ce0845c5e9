-- The job recovery on the bench tree and on images of a rename that a crash interrupted, by computation. Assumes nothing.
use Rattle.std.specs.Prelude.{◌≡◌, refl, List, [], ◌∷◌, ◌++◌, map, ℕ, set, replicate}
use Rattle.seq.specs.Search.{any, all, first, count}
use Rattle.seq.specs.Bytes.{part, put, zeros, no_zero, equal_bytes}
use Rattle.seq.specs.Number.{number_at, bytes_of}
use Rattle.layout.specs.declared.Shape.{Shape}
use Rattle.layout.specs.Limits.{absent}
use Rattle.layout.specs.Contents.{name_is, shape_of, layout_good}
use Rattle.layout.specs.Record.{record_at, store}
use Rattle.layout.specs.View.{view_of, entry_at}
use Rattle.layout.specs.BenchTree.{bench}
use Rattle.encode.specs.Entry.{retargeted}
use Rattle.encode.specs.Journal.{journal_of, journal_formed, journal_head, journal_bytes}
use Rattle.names.specs.Name.{plain_name, is_dots, clash}
use Rattle.names.specs.NameTests.{name_good}
use Rattle.tree.specs.Tree.{entries_of, child_directories, reaches, text_shared}
use Rattle.consistency.specs.Sound.{text_linked, journal_clear, bodies_good}
use Rattle.consistency.specs.Consistent.{consistent}
use Rattle.plan.specs.Form.{header_of, row_stored, rows_put, cleared, no_row, count_of_rows}
use Rattle.plan.specs.Write.{Write, entry_key, journal_key, store_all}
use Rattle.recounts.specs.declared.Move.{Move}
use Rattle.recounts.specs.Recount.{entries_after, children_after, links_after}
use Rattle.results.specs.Results.{moved_bytes, holder_bytes, replaced_bytes, holder_row, results}
use Rattle.rename_drafts.specs.PendingRename.{rename_fits, entry_stands, into_good, move_draft, rename_draft}
use Rattle.drafts.specs.Draft.{draft}
use Rattle.recover.specs.Recover.{pending_rows}
use Rattle.recover.specs.Job.{Recovered, recovered}

abbrev h : Shape
h = shape_of bench

-- `/a/f` to `/b/g`: its move, its journal record and its new entry
abbrev m : Move
m = record { old = 3; new = 5; moved = 3; from = 1; into = 2; replaced = 4; text = absent; now = 500 }

abbrev journal_row : Write
journal_row = record {
  group = 1;
  key = journal_key;
  body = journal_bytes (record { kind = 0; old = 3; new = 5; moved = 3; replaced = 4; parent = 1; text = absent; time = 500 });
}

abbrev entry_row : Write
entry_row = record { group = 2; key = entry_key 5; body = retargeted 3 (entry_at h bench 5) }

-- the image with the journal record set, with the new entry too, and with the old parent's row besides
abbrev begun : List ℕ
begun = store_all h bench (journal_row ∷ [])

abbrev going : List ℕ
going = store_all h bench (journal_row ∷ entry_row ∷ [])

abbrev further : List ℕ
further = store_all h bench (journal_row ∷ entry_row ∷ holder_row h bench m 1 ∷ [])

abbrev buffer : List ℕ
buffer = replicate 648 0

abbrev asked : List ℕ → Recovered
asked x = recovered buffer (replicate 625 7) x

-- the number, the rows as answered, and those that the plan's bytes have
abbrev told : Recovered → List ℕ
told r = r.number ∷ r.rows ∷ count_of_rows r.plan ∷ []

-- nothing to do; taken back; finished; the same once more. Refused: another mark, another operation, the root moved, the
-- old slot out of range, the replaced inode moved, an outcome with the root on another file system; and with no journal record, such an image
abbrev inputs : List (List ℕ)
inputs =
    bench ∷ begun ∷ going ∷ further ∷ set going 592 2 ∷ set going 593 1 ∷ set going 598 0 ∷ set going 594 8 ∷ set going 600 3 ∷ set going 41 1
    ∷ set bench 41 1 ∷ []

pub bench_recovered : map (λ x. told (asked x)) inputs ≡
    (0 ∷ 0 ∷ 0 ∷ []) ∷ (0 ∷ 1 ∷ 1 ∷ []) ∷ (0 ∷ 6 ∷ 6 ∷ []) ∷ (0 ∷ 6 ∷ 6 ∷ [])
    ∷ (204 ∷ 0 ∷ 0 ∷ []) ∷ (204 ∷ 0 ∷ 0 ∷ []) ∷ (204 ∷ 0 ∷ 0 ∷ []) ∷ (204 ∷ 0 ∷ 0 ∷ []) ∷ (204 ∷ 0 ∷ 0 ∷ []) ∷ (204 ∷ 0 ∷ 0 ∷ []) ∷ (201 ∷ 0 ∷ 0 ∷ [])
    ∷ []
unfolding bench any all first count part put store zeros equal_bytes number_at bytes_of name_is shape_of layout_good record_at view_of plain_name is_dots name_good clash entries_of child_directories reaches text_shared no_zero text_linked journal_clear bodies_good consistent moved_bytes holder_bytes replaced_bytes entries_after children_after links_after results journal_of journal_formed journal_head journal_bytes rename_fits entry_stands into_good move_draft rename_draft draft pending_rows recovered header_of row_stored rows_put cleared no_row count_of_rows
bench_recovered = refl

-- the outcome in scratch, zeros where the image cannot be recovered, and the byte past the image as it was
pub bench_scratch : map (λ x. (asked x).scratch) (bench ∷ begun ∷ going ∷ set going 592 2 ∷ []) ≡
    map (λ x. x ++ 7 ∷ []) (bench ∷ bench ∷ store_all h bench (entry_row ∷ results h bench m) ∷ replicate 624 0 ∷ [])
unfolding bench any all first count part put store zeros equal_bytes number_at bytes_of name_is shape_of layout_good record_at view_of plain_name is_dots name_good clash entries_of child_directories reaches text_shared no_zero text_linked journal_clear bodies_good consistent moved_bytes holder_bytes replaced_bytes entries_after children_after links_after results journal_of journal_formed journal_head journal_bytes rename_fits entry_stands into_good move_draft rename_draft draft pending_rows recovered header_of row_stored rows_put cleared no_row count_of_rows
bench_scratch = refl

-- buffers that are too short
pub bench_short : (recovered [] bench bench).number ∷ (recovered buffer [] bench).number ∷ [] ≡ 205 ∷ 205 ∷ []
unfolding bench bytes_of recovered
bench_short = refl
