-- Recovery of the bench tree and of images of an exchange that a crash interrupted, by computation. Assumes nothing.
use Rattle.std.specs.Prelude.{◌≡◌, refl, List, [], ◌∷◌, ◌++◌, map, ℕ, set, replicate}
use Rattle.seq.specs.Search.{any, all, first, count}
use Rattle.seq.specs.Bytes.{part, put, zeros, no_zero, equal_bytes}
use Rattle.seq.specs.Number.{number_at, bytes_of}
use Rattle.layout.specs.declared.Shape.{Shape}
use Rattle.layout.specs.Limits.{absent}
use Rattle.layout.specs.Contents.{name_is, shape_of, layout_good}
use Rattle.layout.specs.Record.{record_at, store}
use Rattle.layout.specs.View.{view_of}
use Rattle.layout.specs.BenchTree.{bench}
use Rattle.encode.specs.Journal.{journal_of, journal_formed, journal_head, journal_bytes}
use Rattle.names.specs.Name.{plain_name, is_dots, clash}
use Rattle.names.specs.NameTests.{name_good}
use Rattle.tree.specs.Tree.{entries_of, child_directories, reaches, text_shared}
use Rattle.consistency.specs.Sound.{text_linked, journal_clear, bodies_good}
use Rattle.consistency.specs.Consistent.{consistent}
use Rattle.plan.specs.Form.{header_of, row_stored, rows_put, cleared, no_row, count_of_rows}
use Rattle.plan.specs.Write.{Write, journal_key, store_all}
use Rattle.recounts.specs.declared.Move.{Move}
use Rattle.recounts.specs.Recount.{entries_after, children_after, links_after}
use Rattle.results.specs.Results.{moved_bytes, holder_bytes, replaced_bytes, results}
use Rattle.rename_drafts.specs.PendingRename.{rename_fits, entry_stands, into_good, move_draft, rename_draft}
use Rattle.exchanges.specs.Exchange.{children_exchanged, slot_row, back, exchange_results}
use Rattle.exchange_drafts.specs.PendingExchange.{slot_stands, slots_stand, exchange_fits, exchange_draft}
use Rattle.drafts.specs.Draft.{draft}
use Rattle.recover.specs.Recover.{pending_rows}
use Rattle.recover.specs.Job.{Recovered, recovered}

abbrev h : Shape
h = shape_of bench

abbrev m : Move
m = record { old = 3; new = 5; moved = 3; from = 1; into = 2; replaced = 4; text = absent; now = 500 }

abbrev journal_row : Write
journal_row = record {
  group = 1;
  key = journal_key;
  body = journal_bytes (record { kind = 7; old = 3; new = 5; moved = 3; replaced = 4; parent = 1; text = absent; time = 500 });
}

abbrev begun : List ℕ
begun = store_all h bench (journal_row ∷ [])

abbrev one : List ℕ
one = store_all h bench (journal_row ∷ slot_row h bench m ∷ [])

abbrev other : List ℕ
other = store_all h bench (journal_row ∷ slot_row h bench (back m) ∷ [])

abbrev both : List ℕ
both = store_all h bench (journal_row ∷ slot_row h bench (back m) ∷ slot_row h bench m ∷ [])

abbrev further : List ℕ
further = store_all h bench (journal_row ∷ exchange_results h bench m)

abbrev buffer : List ℕ
buffer = replicate 648 0

abbrev asked : List ℕ → Recovered
asked x = recovered buffer (replicate 625 7) x

abbrev told : Recovered → List ℕ
told r = r.number ∷ r.rows ∷ count_of_rows r.plan ∷ []

abbrev inputs : List (List ℕ)
inputs = begun ∷ one ∷ other ∷ both ∷ further ∷ set begun 593 6 ∷ set begun 598 0 ∷ set begun 600 0 ∷ set begun 600 3 ∷ set begun 604 0 ∷ set begun 594 5 ∷ []

pub bench_exchange : map (λ x. told (asked x)) inputs ≡
    (0 ∷ 7 ∷ 7 ∷ []) ∷ (0 ∷ 7 ∷ 7 ∷ []) ∷ (0 ∷ 7 ∷ 7 ∷ []) ∷ (0 ∷ 7 ∷ 7 ∷ []) ∷ (0 ∷ 7 ∷ 7 ∷ [])
    ∷ (204 ∷ 0 ∷ 0 ∷ []) ∷ (204 ∷ 0 ∷ 0 ∷ []) ∷ (204 ∷ 0 ∷ 0 ∷ []) ∷ (204 ∷ 0 ∷ 0 ∷ []) ∷ (204 ∷ 0 ∷ 0 ∷ []) ∷ (204 ∷ 0 ∷ 0 ∷ [])
    ∷ []
unfolding bench any all first count part put store zeros equal_bytes number_at bytes_of name_is shape_of layout_good record_at view_of plain_name is_dots name_good clash entries_of child_directories reaches text_shared no_zero text_linked journal_clear bodies_good consistent moved_bytes holder_bytes replaced_bytes entries_after children_after links_after results journal_of journal_formed journal_head journal_bytes rename_fits entry_stands into_good move_draft rename_draft draft pending_rows recovered header_of row_stored rows_put cleared no_row count_of_rows exchange_fits slot_stands slots_stand exchange_draft exchange_results children_exchanged
bench_exchange = refl

pub bench_exchanged : map (λ x. (asked x).scratch) (begun ∷ one ∷ other ∷ both ∷ further ∷ []) ≡
    map (λ x. x ++ 7 ∷ []) (replicate 5 (store_all h bench (exchange_results h bench m)))
unfolding bench any all first count part put store zeros equal_bytes number_at bytes_of name_is shape_of layout_good record_at view_of plain_name is_dots name_good clash entries_of child_directories reaches text_shared no_zero text_linked journal_clear bodies_good consistent moved_bytes holder_bytes replaced_bytes entries_after children_after links_after results journal_of journal_formed journal_head journal_bytes rename_fits entry_stands into_good move_draft rename_draft draft pending_rows recovered header_of row_stored rows_put cleared no_row count_of_rows exchange_fits slot_stands slots_stand exchange_draft exchange_results children_exchanged
bench_exchanged = refl
