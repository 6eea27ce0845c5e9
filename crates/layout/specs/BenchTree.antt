-- The bench tree: a small image, written record by record, that the tables of cases are computed on. A reader has to believe this file. Assumes nothing.
use Rattle.std.specs.Prelude.{List, [], ◌∷◌, ◌++◌, ℕ, ◌-◌, length, replicate}
use Rattle.seq.specs.Number.{bytes_of}
use Rattle.layout.specs.Limits.{entry_size}
use Rattle.layout.specs.Contents.{section_name}

-- bytes, then zeros up to n bytes
abbrev filled : ℕ → List ℕ → List ℕ
filled n xs = xs ++ replicate (n - length xs) 0

abbrev contents_row : ℕ → ℕ → ℕ → List ℕ
contents_row k offset records = section_name entry_size k ++ bytes_of 2 offset ++ bytes_of 2 records

-- an inode of the bench: file system 0, mode 0755, owner and group 100, both times 100
abbrev inode : ℕ → ℕ → ℕ → List ℕ
inode kind links field =
    kind ∷ 0 ∷ bytes_of 2 493 ++ bytes_of 4 100 ++ bytes_of 4 100 ++ bytes_of 2 links ++ bytes_of 2 field ++ bytes_of 8 100 ++ bytes_of 8 100

abbrev entry : ℕ → ℕ → ℕ → List ℕ
entry parent target letter = filled 32 (bytes_of 2 parent ++ bytes_of 2 target ++ 1 ∷ 0 ∷ 0 ∷ 0 ∷ letter ∷ [])

unfoldable pub bench : List ℕ
bench =
    contents_row 0 40 7 ++ contents_row 1 264 8 ++ contents_row 2 520 1 ++ contents_row 3 584 1 ++ contents_row 4 592 1
    -- inodes: the root, /a, /b, two files, a directory, a symlink
    ++ inode 2 4 0 ++ inode 2 3 0 ++ inode 2 2 0 ++ inode 1 2 0 ++ inode 1 1 0 ++ inode 2 2 1 ++ inode 3 1 0
    -- entries: /a, /b, /s, /a/f, /a/d, /b/g, /b/h, and a free slot
    ++ entry 0 1 97 ++ entry 0 2 98 ++ entry 0 6 115 ++ entry 1 3 102 ++ entry 1 5 100 ++ entry 2 4 103 ++ entry 2 3 104 ++ filled 32 []
    -- the symlink's text "a", a handle open on /b, the journal record
    ++ filled 64 (1 ∷ 97 ∷ []) ++ filled 8 (1 ∷ 0 ∷ 2 ∷ []) ++ filled 32 []
