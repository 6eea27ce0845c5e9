-- A rename of the bench tree that crashes, and crashes again while it is recovered: `/a/f` to `/b/g`, computed to its end. Assumes nothing.
use Rattle.std.specs.Prelude.{◌≡◌, refl, Bool, true, false, List, [], ◌∷◌, ◌++◌, map, ℕ, replicate}
use Rattle.seq.specs.Search.{any, all, first, count}
use Rattle.seq.specs.Bytes.{part, put, zeros, no_zero, equal_bytes}
use Rattle.seq.specs.Number.{number_at, bytes_of}
use Rattle.layout.specs.Contents.{name_is, shape_of, layout_good}
use Rattle.layout.specs.Record.{record_at, store}
use Rattle.layout.specs.View.{view_of}
use Rattle.layout.specs.BenchTree.{bench}
use Rattle.encode.specs.Entry.{entry_bytes}
use Rattle.encode.specs.Journal.{journal_of, journal_formed, journal_head, journal_bytes}
use Rattle.names.specs.Name.{plain_name, is_dots, clash}
use Rattle.names.specs.NameTests.{name_good}
use Rattle.tree.specs.Tree.{entries_of, child_directories, reaches, text_shared}
use Rattle.consistency.specs.Sound.{text_linked, journal_clear, bodies_good}
use Rattle.consistency.specs.Consistent.{consistent, records_number, check_number}
use Rattle.paths.specs.Request.{request_good}
use Rattle.paths.specs.Flags.{flags_good}
use Rattle.paths.specs.Groups.{credentials_of, in_further, in_group}
use Rattle.paths.specs.Portable.{is_portable_byte, is_portable}
use Rattle.paths.specs.Permission.{allows}
use Rattle.paths.specs.Lookup.{is_named, lookup}
use Rattle.paths.specs.Path as path
use Rattle.component.specs.Step.{walk_step}
use Rattle.walk.specs.Walk.{walk_from, walk}
use Rattle.walk.specs.Both.{walks_of}
use Rattle.refusals.specs.Case.{sticky_denied}
use Rattle.rename_steps.specs.Tests.{has_entries, is_opened}
use Rattle.plan.specs.Form.{row_at, header_of, row_stored, rows_put, cleared, no_row, count_of_rows}
use Rattle.plan.specs.Fit.{covers_section, covers, is_fitting_row, applicable}
use Rattle.apply.specs.Apply.{apply_number, applied_image}
use Rattle.recounts.specs.Recount.{entries_after, children_after, links_after}
use Rattle.results.specs.Results.{moved_bytes, holder_bytes, replaced_bytes, results}
use Rattle.moves.specs.Plan.{move_of, rename_rows, planned}
use Rattle.rename.specs.Order.{free_slot, order}
use Rattle.rename.specs.Job.{renamed, plan_after}
use Rattle.rename_drafts.specs.PendingRename.{rename_fits, entry_stands, into_good, move_draft, rename_draft}
use Rattle.drafts.specs.Draft.{draft}
use Rattle.recover.specs.Recover.{pending_rows}
use Rattle.recover.specs.Job.{recovered}
use Rattle.outcome.specs.Outcome.{finished}
use Rattle.demands.specs.Crashes.{Event, apply, refused, crash, State, group_of, step as stepped, at_first, entry_applied}
use Rattle.demands.specs.Demand2.{finished_image}
use Rattle.bench_table.specs.Line.{dirty}
use Rattle.bench_table.specs.Table.{owner, /a/f, /b/g}

-- a crash, with buffers of these lengths filled with a byte
abbrev crashed : ℕ → ℕ → ℕ → Event
crashed plan scratch byte = crash (replicate plan byte) (replicate scratch byte)

-- the journal record is set; a number past the rows is refused, and so is recovery, for its plan and for its scratch: nothing waits
abbrev pub early : List Event
early = apply 0 ∷ refused dirty 9 ∷ crashed 647 624 9 ∷ crashed 648 623 9 ∷ []

-- recovery with buffers that just suffice takes the rename back
abbrev pub back : List Event
back = early ++ crashed 648 624 9 ∷ apply 0 ∷ []

-- the journal record and the new entry, then the row that clears the journal record, whose turn has not come, then the moved inode: five of six rows are lost
abbrev pub late : List Event
late = apply 0 ∷ apply 0 ∷ apply 5 ∷ apply 1 ∷ crashed 700 625 9 ∷ []

-- recovery has written the new parent and cleared the old entry when power fails again
abbrev pub again : List Event
again = late ++ apply 3 ∷ apply 0 ∷ crashed 650 624 3 ∷ []

-- the second recovery in an order of its own
abbrev pub through : List Event
through = again ++ apply 4 ∷ apply 2 ∷ apply 0 ∷ apply 0 ∷ apply 0 ∷ apply 0 ∷ []

-- whether a recovery is done, whether the new entry was applied, and the groups of the rows that wait
abbrev pub Seen : Type 0
Seen = Bool × Bool × List ℕ

abbrev pub seen : State → Seen
seen x = (x.done, entry_applied x, map group_of x.waiting)

-- what is seen before the first event and after each, and the image in the end: one pass, so that no event is computed twice
abbrev pub passing : State → List Event → List Seen × List ℕ
passing x [] = (seen x ∷ [], x.image)
passing x (e ∷ es) = let rest = passing (stepped x e) es in (seen x ∷ rest.0, rest.1)

abbrev pub passed : List Event → List Seen × List ℕ
passed es = passing (at_first bench (plan_after bench dirty owner /a/f /b/g)) es

-- eight rows wait at first; recovery is refused twice, and then its one row leaves the image before
pub taken_back : passed back
    ≡ (
      (false, false, 1 ∷ 2 ∷ 3 ∷ 3 ∷ 3 ∷ 3 ∷ 3 ∷ 4 ∷ [])
          ∷ (false, false, 2 ∷ 3 ∷ 3 ∷ 3 ∷ 3 ∷ 3 ∷ 4 ∷ [])
          ∷ (false, false, 2 ∷ 3 ∷ 3 ∷ 3 ∷ 3 ∷ 3 ∷ 4 ∷ [])
          ∷ (false, false, [])
          ∷ (false, false, [])
          ∷ (false, false, 4 ∷ [])
          ∷ (true, false, [])
          ∷ [],
      bench,
    )
unfolding bench any all first count part put store zeros no_zero equal_bytes number_at bytes_of name_is shape_of layout_good record_at view_of plain_name is_dots name_good clash entries_of child_directories reaches text_shared text_linked journal_clear bodies_good consistent records_number check_number credentials_of in_further in_group allows path.slashes path.until_slash is_portable_byte is_portable is_named lookup request_good flags_good walk_step walk_from walk walks_of entry_bytes journal_of journal_formed journal_head journal_bytes row_at header_of row_stored rows_put cleared no_row count_of_rows covers_section covers is_fitting_row applicable apply_number applied_image moved_bytes holder_bytes replaced_bytes entries_after children_after links_after results sticky_denied has_entries is_opened move_of rename_rows planned free_slot order renamed plan_after rename_fits entry_stands into_good move_draft rename_draft draft pending_rows recovered finished
taken_back = refl

-- once the new entry is applied, recovery has six rows, also the second time; they leave the finished image
pub carried_through : passed through
    ≡ (
      (false, false, 1 ∷ 2 ∷ 3 ∷ 3 ∷ 3 ∷ 3 ∷ 3 ∷ 4 ∷ [])
          ∷ (false, false, 2 ∷ 3 ∷ 3 ∷ 3 ∷ 3 ∷ 3 ∷ 4 ∷ [])
          ∷ (false, true, 3 ∷ 3 ∷ 3 ∷ 3 ∷ 3 ∷ 4 ∷ [])
          ∷ (false, true, 3 ∷ 3 ∷ 3 ∷ 3 ∷ 3 ∷ 4 ∷ [])
          ∷ (false, true, 3 ∷ 3 ∷ 3 ∷ 3 ∷ 4 ∷ [])
          ∷ (false, true, 3 ∷ 3 ∷ 3 ∷ 3 ∷ 3 ∷ 4 ∷ [])
          ∷ (false, true, 3 ∷ 3 ∷ 3 ∷ 3 ∷ 4 ∷ [])
          ∷ (false, true, 3 ∷ 3 ∷ 3 ∷ 4 ∷ [])
          ∷ (false, true, 3 ∷ 3 ∷ 3 ∷ 3 ∷ 3 ∷ 4 ∷ [])
          ∷ (false, true, 3 ∷ 3 ∷ 3 ∷ 3 ∷ 4 ∷ [])
          ∷ (false, true, 3 ∷ 3 ∷ 3 ∷ 4 ∷ [])
          ∷ (false, true, 3 ∷ 3 ∷ 4 ∷ [])
          ∷ (false, true, 3 ∷ 4 ∷ [])
          ∷ (false, true, 4 ∷ [])
          ∷ (true, true, [])
          ∷ [],
      finished_image bench dirty owner /a/f /b/g,
    )
unfolding bench any all first count part put store zeros no_zero equal_bytes number_at bytes_of name_is shape_of layout_good record_at view_of plain_name is_dots name_good clash entries_of child_directories reaches text_shared text_linked journal_clear bodies_good consistent records_number check_number credentials_of in_further in_group allows path.slashes path.until_slash is_portable_byte is_portable is_named lookup request_good flags_good walk_step walk_from walk walks_of entry_bytes journal_of journal_formed journal_head journal_bytes row_at header_of row_stored rows_put cleared no_row count_of_rows covers_section covers is_fitting_row applicable apply_number applied_image moved_bytes holder_bytes replaced_bytes entries_after children_after links_after results sticky_denied has_entries is_opened move_of rename_rows planned free_slot order renamed plan_after rename_fits entry_stands into_good move_draft rename_draft draft pending_rows recovered finished
carried_through = refl
