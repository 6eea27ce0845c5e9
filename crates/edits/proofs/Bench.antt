-- Three renames on the bench tree: each fact that a finished rename needs is computed, so the finished view is consistent. Assumes nothing.
use Rattle.std.specs.Prelude.{refl, List, [], ◌∷◌, ℕ}
use Rattle.std.proofs.Common.{lit<}
use Rattle.std.proofs.lemmas.Bool.{eqb-false}
use Rattle.seq.specs.Search.{any, all, count}
use Rattle.seq.specs.Bytes.{part, equal_bytes}
use Rattle.seq.specs.Number.{number_at, bytes_of}
use Rattle.layout.specs.Contents.{shape_of}
use Rattle.layout.specs.Record.{record_at}
use Rattle.layout.specs.View.{View, view_of}
use Rattle.layout.specs.BenchTree.{bench}
use Rattle.tree.specs.Tree.{entries_of, reaches}
use Rattle.consistency.proofs.BenchConsistent.{bench_consistent}
use Rattle.consistency.proofs.FactLaws.{consistent_is}
use Rattle.edits.specs.ConsistentView.{ConsistentView}
use Rattle.edits.specs.Moved.{Allowed}
use Rattle.edits.specs.Renamed.{moved_view}
use Rattle.edits.proofs.RenamedLaws.{renamed_consistent}
use Rattle.edits.proofs.Bodies.{bodies_consistent}
use Rattle.edits.proofs.Refusals.{missing_of, unopened_of, not_above_of}

abbrev pub v : View
v = view_of (shape_of bench) bench

good : ConsistentView v
good = bodies_consistent (consistent_is bench bench_consistent).bodies

-- the names `k`, `g` and `e`
abbrev pub k : List ℕ
k = 107 ∷ []

abbrev pub g : List ℕ
g = 103 ∷ []

abbrev pub e : List ℕ
e = 101 ∷ []

-- `/a/f` to `/a/k`: a file, from slot 3 to the free slot 7 of the same directory
pub new_name_lem : Allowed v 3 7 3 1 1 k
unfolding bench any all part equal_bytes number_at bytes_of shape_of record_at view_of reaches
new_name_lem = record {
  old_used = (lit< tt, eqb-false 1 0 refl);
  old_parent = refl;
  old_target = refl;
  into_directory = (lit< tt, refl);
  new_parent = λ u. absurd (u.1 refl);
  new_name_lem = λ u. absurd (u.1 refl);
  missing = λ _. missing_of v 1 k refl;
  other = λ u. absurd (u.1 refl);
  systems = refl;
  not_above = not_above_of v good 3 1 (lit< tt, refl) refl;
  alike = λ u. absurd (u.1 refl);
  empty = λ u. absurd (u.1 refl);
  unopened = λ u. absurd (u.1 refl);
  room = λ _ n. absurd (n refl);
  new_below = lit< tt;
}

pub new_name_consistent : ConsistentView (moved_view v 3 7 3 1 1 k)
new_name_consistent = renamed_consistent good new_name_lem (eqb-false 1 0 refl)

-- `/a/f` to `/b/g`: a file, from slot 3 to slot 5 of another directory, whose file has no other entry
pub file_replaced : Allowed v 3 5 3 1 2 g
unfolding bench any all count part equal_bytes number_at bytes_of shape_of record_at view_of reaches entries_of
file_replaced = record {
  old_used = (lit< tt, eqb-false 1 0 refl);
  old_parent = refl;
  old_target = refl;
  into_directory = (lit< tt, refl);
  new_parent = λ _. refl;
  new_name_lem = λ _. refl;
  missing = λ free. absurd (free (lit< tt, eqb-false 1 0 refl));
  other = λ _. eqb-false 4 3 refl;
  systems = refl;
  not_above = not_above_of v good 3 2 (lit< tt, refl) refl;
  alike = λ _ d. absurd (eqb-false 1 2 refl d.1);
  empty = λ _ d. absurd (eqb-false 1 2 refl d.1);
  unopened = λ _ _. unopened_of v 4 refl;
  room = λ d. absurd (eqb-false 1 2 refl d.1);
  new_below = lit< tt;
}

pub file_replaced_consistent : ConsistentView (moved_view v 3 5 3 1 2 g)
file_replaced_consistent = renamed_consistent good file_replaced (eqb-false 1 0 refl)

-- `/a/d` to `/b/e/`: a directory, from slot 4 to the free slot 7 of another directory
pub directory_moved : Allowed v 4 7 5 1 2 e
unfolding bench any all part equal_bytes number_at bytes_of shape_of record_at view_of reaches
directory_moved = record {
  old_used = (lit< tt, eqb-false 1 0 refl);
  old_parent = refl;
  old_target = refl;
  into_directory = (lit< tt, refl);
  new_parent = λ u. absurd (u.1 refl);
  new_name_lem = λ u. absurd (u.1 refl);
  missing = λ _. missing_of v 2 e refl;
  other = λ u. absurd (u.1 refl);
  systems = refl;
  not_above = not_above_of v good 5 2 (lit< tt, refl) refl;
  alike = λ u. absurd (u.1 refl);
  empty = λ u. absurd (u.1 refl);
  unopened = λ u. absurd (u.1 refl);
  room = λ _ _ _. eqb-false 2 64 refl;
  new_below = lit< tt;
}

pub directory_moved_consistent : ConsistentView (moved_view v 4 7 5 1 2 e)
directory_moved_consistent = renamed_consistent good directory_moved (eqb-false 1 0 refl)
