-- The types of inodes and the states of handles by their numbers (forms D and G). A reader has to believe this file. Assumes nothing.
use Rattle.std.specs.Prelude.{ℕ, zero, suc, ◌+◌}
use Rattle.layout.specs.declared.handle.State.{State}
use Rattle.layout.specs.declared.handle.State.TheVariants as state
use Rattle.layout.specs.declared.kind.Kind.{Kind}
use Rattle.layout.specs.declared.kind.Kind.TheVariants.{Free, File, Directory, Symlink, Unknown}

abbrev pub kind_named : ℕ → Kind
kind_named zero = Free
kind_named (suc zero) = File
kind_named (suc (suc zero)) = Directory
kind_named (suc (suc (suc zero))) = Symlink
kind_named (suc (suc (suc (suc n)))) = Unknown (n + 4)

-- the number that a type has
abbrev pub kind_number : Kind → ℕ
kind_number Free = 0
kind_number File = 1
kind_number Directory = 2
kind_number Symlink = 3
kind_number (Unknown n) = n

abbrev pub state_named : ℕ → State
state_named zero = state.Closed
state_named (suc zero) = state.Open
state_named (suc (suc zero)) = state.Search
state_named (suc (suc (suc n))) = state.Unknown (n + 3)

-- the number that a state has
abbrev pub state_number : State → ℕ
state_number state.Closed = 0
state_number state.Open = 1
state_number state.Search = 2
state_number (state.Unknown n) = n
