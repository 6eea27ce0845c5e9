-- Walks on the bench tree, by computation of the definition. Assumes nothing.
use Rattle.std.specs.Prelude.{◌≡◌, refl, false, List, [], ◌∷◌, ℕ}
use Rattle.seq.specs.Search.{any, all, first}
use Rattle.seq.specs.Bytes.{part, equal_bytes}
use Rattle.seq.specs.Number.{number_at, bytes_of}
use Rattle.layout.specs.Limits.{no_handle}
use Rattle.layout.specs.Contents.{shape_of}
use Rattle.layout.specs.Record.{record_at}
use Rattle.layout.specs.View.{View, view_of}
use Rattle.layout.specs.BenchTree.{bench}
use Rattle.paths.specs.Path.{slashes, until_slash}
use Rattle.paths.specs.Groups.{credentials_of, in_further, in_group}
use Rattle.paths.specs.Permission.{allows}
use Rattle.paths.specs.Portable.{is_portable_byte, is_portable}
use Rattle.paths.specs.Lookup.{is_named, lookup}
use Rattle.component.specs.declared.state.Final.{Final}
use Rattle.component.specs.Step.{Finding, End, existing, missing, nothing, walk_step}
use Rattle.walk.specs.Walk.{halt, walk_from, walk}
use Rattle.walk.specs.Both.{old_final, new_final}

abbrev pub bench_view : View
bench_view = view_of (shape_of bench) bench

-- user and group 100, in the root
abbrev pub bench_walk : Final → ℕ → List ℕ → End
bench_walk last start path = walk bench_view (credentials_of 100 100 []) last 0 start path

abbrev pub found : ℕ → Finding → End
found steps f = record { number = 0; steps = steps; found = f }

-- the paths in turn: /a/f as old; /a/k, and then as old; /s/f, /k, g at handle 0 and at handle 9, /, none at all, and one space, and then as old
pub walks :
    bench_walk old_final no_handle (47 ∷ 97 ∷ 47 ∷ 102 ∷ [])
    ∷ bench_walk new_final no_handle (47 ∷ 97 ∷ 47 ∷ 107 ∷ [])
    ∷ bench_walk old_final no_handle (47 ∷ 97 ∷ 47 ∷ 107 ∷ [])
    ∷ bench_walk old_final no_handle (47 ∷ 115 ∷ 47 ∷ 102 ∷ [])
    ∷ bench_walk new_final no_handle (47 ∷ 107 ∷ [])
    ∷ bench_walk old_final 0 (103 ∷ [])
    ∷ bench_walk old_final 9 (103 ∷ [])
    ∷ bench_walk new_final no_handle (47 ∷ [])
    ∷ bench_walk new_final no_handle []
    ∷ bench_walk new_final no_handle (32 ∷ [])
    ∷ bench_walk old_final no_handle (32 ∷ [])
    ∷ []
    ≡ found 2 (existing 1 3 3 false)
    ∷ found 2 (missing 1 (107 ∷ []) false)
    ∷ record { number = 2; steps = 2; found = nothing }
    ∷ found 3 (existing 1 3 3 false)
    ∷ found 1 (missing 0 (107 ∷ []) false)
    ∷ found 1 (existing 2 5 4 false)
    ∷ halt 9
    ∷ halt 16
    ∷ halt 2
    ∷ record { number = 1; steps = 1; found = nothing }
    ∷ record { number = 2; steps = 1; found = nothing }
    ∷ []
unfolding bench any all first part equal_bytes number_at bytes_of shape_of record_at view_of credentials_of in_further in_group allows slashes until_slash is_portable_byte is_portable is_named lookup walk_step walk_from walk
walks = refl
