-- Every line of the table holds: one claim, by computation of the jobs' definitions. Assumes nothing.
use Rattle.std.specs.Prelude.{◌≡◌, refl, map}
use Rattle.seq.specs.Search.{any, all, first, count}
use Rattle.seq.specs.Bytes.{part, put, zeros, no_zero, equal_bytes}
use Rattle.seq.specs.Number.{number_at, bytes_of}
use Rattle.layout.specs.Contents.{name_is, shape_of, layout_good}
use Rattle.layout.specs.Record.{record_at}
use Rattle.layout.specs.View.{view_of}
use Rattle.layout.specs.BenchTree.{bench}
use Rattle.encode.specs.Entry.{entry_bytes}
use Rattle.encode.specs.Journal.{journal_head, journal_bytes}
use Rattle.names.specs.Name.{plain_name, is_dots, clash}
use Rattle.names.specs.NameTests.{name_good}
use Rattle.tree.specs.Tree.{entries_of, child_directories, reaches, text_shared}
use Rattle.consistency.specs.Sound.{text_linked, journal_clear, bodies_good}
use Rattle.consistency.specs.Consistent.{records_number, check_number}
use Rattle.paths.specs.Request.{request_good}
use Rattle.paths.specs.Flags.{flags_good}
use Rattle.paths.specs.Groups.{credentials_of, in_further, in_group}
use Rattle.paths.specs.Portable.{is_portable_byte, is_portable}
use Rattle.paths.specs.Permission.{allows}
use Rattle.paths.specs.Lookup.{is_named, lookup}
use Rattle.paths.specs.Path as path
use Rattle.component.specs.Step.{walk_step}
use Rattle.walk.specs.Walk.{walk_from, walk}
use Rattle.walk.specs.Both.{walks_of}
use Rattle.refusals.specs.Case.{sticky_denied}
use Rattle.rename_steps.specs.Tests.{has_entries, is_opened}
use Rattle.plan.specs.Form.{row_at, header_of, row_stored, rows_put, cleared}
use Rattle.plan.specs.Fit.{covers_section, covers, is_fitting_row, applicable}
use Rattle.apply.specs.Apply.{apply_number, applied_image}
use Rattle.recounts.specs.Recount.{entries_after, children_after, links_after}
use Rattle.results.specs.Results.{moved_bytes, holder_bytes, replaced_bytes, results}
use Rattle.moves.specs.Plan.{move_of, rename_rows, planned}
use Rattle.rename.specs.Order.{free_slot, order}
use Rattle.rename.specs.Job.{renamed, plan_after}
use Rattle.bench_table.specs.Line.{below, apply_rows, outcome}
use Rattle.bench_table.specs.Table.{table}

pub bench_table : map (λ l. outcome l.asked) table ≡ map (λ l. l.expected) table
unfolding bench any all first count part put zeros no_zero equal_bytes number_at bytes_of name_is shape_of layout_good record_at view_of plain_name is_dots name_good clash entries_of child_directories reaches text_shared text_linked journal_clear bodies_good records_number check_number credentials_of in_further in_group allows path.slashes path.until_slash is_portable_byte is_portable is_named lookup request_good flags_good walk_step walk_from walk walks_of entry_bytes journal_head journal_bytes row_at header_of row_stored rows_put cleared covers_section covers is_fitting_row applicable apply_number applied_image moved_bytes holder_bytes replaced_bytes entries_after children_after links_after results sticky_denied has_entries is_opened move_of rename_rows planned free_slot order renamed plan_after below apply_rows outcome table
bench_table = refl
