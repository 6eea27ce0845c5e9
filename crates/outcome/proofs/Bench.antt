-- Two renames of the bench tree meet all that is assumed here, so what they leave is consistent. Assumes nothing.
use Rattle.std.specs.Prelude.{◌≡◌, refl, []}
use Rattle.std.proofs.Common.{lit<, lit≤}
use Rattle.std.proofs.lemmas.Bool.{eqb-false}
use Rattle.seq.specs.Search.{all, count}
use Rattle.seq.specs.Bytes.{part, equal_bytes}
use Rattle.seq.specs.Number.{number_at, bytes_of}
use Rattle.layout.specs.declared.Shape.{Shape}
use Rattle.layout.specs.Limits.{absent}
use Rattle.layout.specs.Contents.{shape_of}
use Rattle.layout.specs.Record.{record_at}
use Rattle.layout.specs.View.{view_of}
use Rattle.layout.specs.BenchTree.{bench}
use Rattle.names.specs.Name.{plain_name, is_dots}
use Rattle.names.specs.NameTests.{name_good}
use Rattle.consistency.specs.Consistent.{check_number}
use Rattle.consistency.proofs.BenchConsistent.{bench_consistent}
use Rattle.consistency.specs.Facts.{Consistent}
use Rattle.consistency.proofs.FactLaws.{consistent_is}
use Rattle.edits.proofs.Bench.{k, g, new_name_lem, file_replaced}
use Rattle.recounts.specs.declared.Move.{Move}
use Rattle.recounts.specs.Recount.{entries_after}
use Rattle.image_store.proofs.ImageLaws.{read_of}
use Rattle.outcome.specs.Outcome.{finished}
use Rattle.outcome.specs.Called.{Called}
use Rattle.outcome.proofs.Consistent.{finished_checked}

abbrev h : Shape
h = shape_of bench

good : Consistent bench
good = consistent_is bench bench_consistent

-- `/a/f` to `/a/k`, whose name is missing
abbrev renamed : Move
renamed = record { old = 3; new = 7; moved = 3; from = 1; into = 1; replaced = absent; text = absent; now = 500 }

pub new_name_called : Called h bench renamed k
unfolding bench part number_at bytes_of shape_of record_at view_of name_good plain_name is_dots all equal_bytes count entries_after
new_name_called = record {
  read = read_of h bench good.layout refl;
  bodies = good.bodies;
  clear = good.journal;
  name = k;
  missing = λ _. refl;
  nonempty = eqb-false 1 0 refl;
  short = lit≤ tt;
  good = refl;
  allowed = new_name_lem;
  replaced = refl;
  text = refl;
  time = lit< tt;
}

pub new_name_finished : check_number (finished h bench renamed k) ≡ 0
new_name_finished = finished_checked new_name_called

-- `/a/f` to `/b/g`, whose entry is taken over: no name is asked for
abbrev replacing : Move
replacing = record { old = 3; new = 5; moved = 3; from = 1; into = 2; replaced = 4; text = absent; now = 500 }

pub file_replaced_called : Called h bench replacing []
unfolding bench part number_at bytes_of shape_of record_at view_of name_good plain_name is_dots all equal_bytes count entries_after
file_replaced_called = record {
  read = read_of h bench good.layout refl;
  bodies = good.bodies;
  clear = good.journal;
  name = g;
  missing = λ e. absurd (eqb-false 4 absent refl e);
  nonempty = eqb-false 1 0 refl;
  short = lit≤ tt;
  good = refl;
  allowed = file_replaced;
  replaced = refl;
  text = refl;
  time = lit< tt;
}

pub file_replaced_finished : check_number (finished h bench replacing []) ≡ 0
file_replaced_finished = finished_checked file_replaced_called
