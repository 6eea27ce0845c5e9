-- The table of renames on the bench tree: the lines that the build description stars, in its order, with what each is expected to give. A reader has to believe this
-- file. Assumes nothing.
use Rattle.std.specs.Prelude.{true, List, [], ◌∷◌, ◌++◌, ℕ, ◌-◌, length, replicate}
use Rattle.seq.specs.Bytes.{put}
use Rattle.seq.specs.Number.{bytes_of}
use Rattle.layout.specs.Limits.{no_handle}
use Rattle.layout.specs.BenchTree.{bench}
use Rattle.paths.specs.declared.request.Request.{Request}
use Rattle.paths.specs.Groups.{credentials_of}
use Rattle.plan.specs.Form.{plan_bytes}
use Rattle.rename.specs.Renamed.{Renamed}
use Rattle.bench_table.specs.Line.{EntrySeen, Outcome, bytes, planned, Line, past, dirty}

-- ---- what is asked

-- a user and group of one number, in the root at time 500; old has a start, new begins in the root
abbrev pub caller : ℕ → ℕ → Request
caller id start = record { who = credentials_of id id []; current = 0; starts = record { old = start; new = no_handle }; now = 500; flags = 0 }

-- the one whom all inodes belong to
abbrev pub owner : Request
owner = caller 100 no_handle

-- the bench tree with no free slot: slot 7, at 488, is /x, and inode 4, whose link count is at 180, has two
abbrev pub full : List ℕ
full = put (put bench 488 (0 ∷ 0 ∷ 4 ∷ 0 ∷ 1 ∷ 0 ∷ 0 ∷ 0 ∷ 120 ∷ [])) 180 (2 ∷ 0 ∷ [])

-- names, and paths by their bytes
abbrev pub e : List ℕ
e = 101 ∷ []

abbrev pub g : List ℕ
g = 103 ∷ []

abbrev pub k : List ℕ
k = 107 ∷ []

abbrev pub /a : List ℕ
/a = 47 ∷ 97 ∷ []

abbrev pub /b : List ℕ
/b = 47 ∷ 98 ∷ []

abbrev pub /g : List ℕ
/g = 47 ∷ 103 ∷ []

abbrev pub /k : List ℕ
/k = 47 ∷ 107 ∷ []

abbrev pub /k/ : List ℕ
/k/ = 47 ∷ 107 ∷ 47 ∷ []

abbrev pub /a/d : List ℕ
/a/d = 47 ∷ 97 ∷ 47 ∷ 100 ∷ []

abbrev pub /a/d/x : List ℕ
/a/d/x = 47 ∷ 97 ∷ 47 ∷ 100 ∷ 47 ∷ 120 ∷ []

abbrev pub /a/f : List ℕ
/a/f = 47 ∷ 97 ∷ 47 ∷ 102 ∷ []

abbrev pub /a/k : List ℕ
/a/k = 47 ∷ 97 ∷ 47 ∷ 107 ∷ []

abbrev pub /b/e/ : List ℕ
/b/e/ = 47 ∷ 98 ∷ 47 ∷ 101 ∷ 47 ∷ []

abbrev pub /b/g : List ℕ
/b/g = 47 ∷ 98 ∷ 47 ∷ 103 ∷ []

abbrev pub /b/h : List ℕ
/b/h = 47 ∷ 98 ∷ 47 ∷ 104 ∷ []

abbrev pub /s/f : List ℕ
/s/f = 47 ∷ 115 ∷ 47 ∷ 102 ∷ []

-- ---- what is expected

-- number, rows, and the walk counts of old and new
abbrev pub answers : ℕ → ℕ → ℕ → ℕ → Renamed
answers number rows old new = record { number = number; rows = rows; old = old; new = new }

-- a number that is not 0: the plan buffer is as it was
abbrev pub refused_line : ℕ → ℕ → ℕ → Outcome
refused_line number old new = record { answer = answers number 0 old new; after = bytes dirty }

-- two names of one file: a plan of no rows
abbrev pub same : ℕ → ℕ → Outcome
same old new = record { answer = answers 0 0 old new; after = bytes (replicate plan_bytes 0 ++ past) }

-- slot, parent, target and name of the new entry
abbrev pub entry : ℕ → ℕ → ℕ → List ℕ → EntrySeen
entry slot parent target name = record { slot = slot; parent = parent; target = target; name = name }

-- group, length, offset and body of a row, as the bytes of its header
abbrev pub row : ℕ → ℕ → ℕ → ℕ → List ℕ
row group long offset body = group ∷ 0 ∷ bytes_of 2 long ++ bytes_of 2 offset ++ bytes_of 2 body

-- rows up to the ninth, the unused ones of zeros
abbrev pub nine : List (List ℕ) → List (List ℕ)
nine rows = rows ++ replicate (9 - length rows) (replicate 8 0)

-- so many rows, and the walk counts: all rows are applied, and the image is consistent again
abbrev pub moves : ℕ → ℕ → ℕ → EntrySeen → List ℕ → ℕ → List (List ℕ) → Outcome
moves rows old new made links free plan = record {
  answer = answers 0 rows old new;
  after =
      planned (record { entry = made; links = links; free = free; applies = true; check = 0; headers = nine plan; past = past });
}

-- the plans with rows: of the first line, the third, the one of a directory, the one through a symlink, and the one from a handle
abbrev pub first_plan : List (List ℕ)
first_plan =
    row 1 32 592 72 ∷ row 2 32 488 136 ∷ row 3 32 360 200 ∷ row 3 32 136 264 ∷ row 3 32 72 328 ∷ row 4 32 592 392 ∷ []

abbrev pub third_plan : List (List ℕ)
third_plan =
    row 1 32 592 72 ∷ row 2 32 424 136 ∷ row 3 32 360 200 ∷ row 3 32 136 264 ∷ row 3 32 72 328 ∷ row 3 32 104 392 ∷ row 3 32 168 456 ∷ row 4 32 592 520 ∷ []

abbrev pub directory_plan : List (List ℕ)
directory_plan =
    row 1 32 592 72 ∷ row 2 32 488 136 ∷ row 3 32 392 200 ∷ row 3 32 200 264 ∷ row 3 32 72 328 ∷ row 3 32 104 392 ∷ row 4 32 592 456 ∷ []

abbrev pub symlink_plan : List (List ℕ)
symlink_plan =
    row 1 32 592 72 ∷ row 2 32 488 136 ∷ row 3 32 360 200 ∷ row 3 32 136 264 ∷ row 3 32 72 328 ∷ row 3 32 40 392 ∷ row 4 32 592 456 ∷ []

abbrev pub handle_plan : List (List ℕ)
handle_plan =
    row 1 32 592 72 ∷ row 2 32 488 136 ∷ row 3 32 424 200 ∷ row 3 32 168 264 ∷ row 3 32 104 328 ∷ row 3 32 40 392 ∷ row 4 32 592 456 ∷ []

-- ---- the table

abbrev pub on : List ℕ → Request → List ℕ → List ℕ → Outcome → Line
on image q old new expected = record { asked = record { image = image; request = q; old = old; new = new }; expected = expected }

-- where a plan has rows: their number, the walk counts, the new entry, the link counts, the free inode (7 for none), the headers
unfoldable pub table : List Line
table =
    on bench owner /a/f /a/k (moves 6 2 2 (entry 7 1 3 k) (4 ∷ 3 ∷ 2 ∷ 2 ∷ 1 ∷ 2 ∷ 1 ∷ []) 7 first_plan)
    ∷ on bench owner /a/f /b/h (same 2 2)
    ∷ on bench owner /a/f /b/g (moves 8 2 2 (entry 5 2 3 g) (4 ∷ 3 ∷ 2 ∷ 2 ∷ 0 ∷ 2 ∷ 1 ∷ []) 4 third_plan)
    ∷ on bench owner /a/d /b/e/ (moves 7 2 2 (entry 7 2 5 e) (4 ∷ 2 ∷ 3 ∷ 2 ∷ 1 ∷ 2 ∷ 1 ∷ []) 7 directory_plan)
    ∷ on bench owner /a /a/d/x (refused_line 22 1 3)
    ∷ on bench owner /a/f /a/d (refused_line 21 2 2)
    ∷ on bench owner /b /a (refused_line 39 1 1)
    ∷ on bench owner /s/f /k (moves 7 3 1 (entry 7 0 3 k) (4 ∷ 3 ∷ 2 ∷ 2 ∷ 1 ∷ 2 ∷ 1 ∷ []) 7 symlink_plan)
    ∷ on bench owner /a/f /k/ (refused_line 20 2 1)
    ∷ on bench (caller 100 0) g /g (moves 7 1 1 (entry 7 0 4 g) (4 ∷ 3 ∷ 2 ∷ 2 ∷ 1 ∷ 2 ∷ 1 ∷ []) 7 handle_plan)
    ∷ on bench (caller 100 9) g /g (refused_line 9 0 0)
    ∷ on bench (caller 200 no_handle) /a/f /a/k (refused_line 13 2 2)
    ∷ on full owner /a/f /a/k (refused_line 28 2 2)
    ∷ on full owner /a/f /b/g (moves 8 2 2 (entry 5 2 3 g) (4 ∷ 3 ∷ 2 ∷ 2 ∷ 1 ∷ 2 ∷ 1 ∷ []) 7 third_plan)
    ∷ []
