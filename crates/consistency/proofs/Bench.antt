-- The bench tree is consistent, by computation of the definition. Assumes nothing.
use Rattle.std.specs.Prelude.{◌≡◌, refl}
use Rattle.seq.specs.Search.{any, all, count}
use Rattle.seq.specs.Bytes.{part, zeros, no_zero, equal_bytes}
use Rattle.seq.specs.Number.{number_at, bytes_of}
use Rattle.layout.specs.Contents.{name_is, shape_of, layout_good}
use Rattle.layout.specs.Record.{record_at}
use Rattle.layout.specs.View.{view_of}
use Rattle.layout.specs.BenchTree.{bench}
use Rattle.names.specs.Name.{plain_name, is_dots, clash}
use Rattle.names.specs.NameTests.{name_good}
use Rattle.tree.specs.Tree.{entries_of, child_directories, reaches, text_shared}
use Rattle.consistency.specs.Sound.{text_linked, journal_clear, bodies_good}
use Rattle.consistency.specs.Consistent.{records_number, check_number}

pub bench_checked : check_number bench ≡ 0
unfolding bench any all count part zeros equal_bytes number_at bytes_of name_is shape_of layout_good record_at view_of plain_name is_dots name_good clash entries_of child_directories reaches text_shared no_zero text_linked journal_clear bodies_good records_number check_number
bench_checked = refl
