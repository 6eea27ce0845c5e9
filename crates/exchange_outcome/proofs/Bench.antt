-- An exchange of the bench tree meets all that is assumed here, so what it leaves is consistent. Assumes nothing.
use Rattle.std.specs.Prelude.{◌≡◌, refl}
use Rattle.std.proofs.Common.{lit<}
use Rattle.std.proofs.lemmas.Bool.{eqb-false}
use Rattle.seq.specs.Bytes.{part}
use Rattle.seq.specs.Number.{number_at, bytes_of}
use Rattle.layout.specs.declared.Shape.{Shape}
use Rattle.layout.specs.Limits.{absent}
use Rattle.layout.specs.Contents.{shape_of}
use Rattle.layout.specs.Record.{record_at}
use Rattle.layout.specs.View.{view_of}
use Rattle.layout.specs.BenchTree.{bench}
use Rattle.tree.specs.Tree.{reaches}
use Rattle.consistency.specs.Consistent.{check_number}
use Rattle.consistency.proofs.BenchConsistent.{bench_consistent}
use Rattle.consistency.specs.Facts.{Consistent}
use Rattle.consistency.proofs.FactLaws.{consistent_is}
use Rattle.edits.specs.Exchanged.{Side}
use Rattle.edits.proofs.Bodies.{bodies_consistent}
use Rattle.edits.proofs.Refusals.{not_above_of}
use Rattle.recounts.specs.declared.Move.{Move}
use Rattle.image_store.proofs.ImageLaws.{read_of}
use Rattle.exchange_outcome.specs.Outcome.{exchanged}
use Rattle.exchange_outcome.specs.Paired.{Paired}
use Rattle.exchange_outcome.proofs.Consistent.{exchange_checked}

abbrev h : Shape
h = shape_of bench

good : Consistent bench
good = consistent_is bench bench_consistent

-- `/a/d`, a directory, and `/b/g`, a file of another directory
abbrev traded : Move
traded = record { old = 4; new = 5; moved = 5; from = 1; into = 2; replaced = 4; text = absent; now = 500 }

-- the directory goes to `/b`, which gets one more child directory
directory_side : Side (view_of h bench) 4 5 1 4 2
unfolding bench part number_at bytes_of shape_of record_at view_of reaches
directory_side = record {
  used = (lit< tt, eqb-false 1 0 refl);
  parent = refl;
  target = refl;
  not_above = not_above_of (view_of h bench) (bodies_consistent good.bodies) 5 2 (lit< tt, refl) refl;
  room = λ _ _ _. eqb-false 2 64 refl;
}

file_side : Side (view_of h bench) 5 4 2 5 1
unfolding bench part number_at bytes_of shape_of record_at view_of reaches
file_side = record {
  used = (lit< tt, eqb-false 1 0 refl);
  parent = refl;
  target = refl;
  not_above = not_above_of (view_of h bench) (bodies_consistent good.bodies) 4 1 (lit< tt, refl) refl;
  room = λ d. absurd (eqb-false 1 2 refl d.1);
}

pub traded_paired : Paired h bench traded
unfolding bench part number_at bytes_of shape_of record_at view_of
traded_paired = record {
  read = read_of h bench good.layout refl;
  bodies = good.bodies;
  clear = good.journal;
  allowed = record { first = directory_side; second = file_side; other = eqb-false 5 4 refl; systems = refl };
  text = refl;
  time = lit< tt;
}

pub traded_exchanged : check_number (exchanged h bench traded) ≡ 0
traded_exchanged = exchange_checked traded_paired
