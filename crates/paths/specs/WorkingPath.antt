-- A working path: bytes in 256, with zeros behind them. Assumes nothing.
use Rattle.std.specs.Prelude.{List, ◌++◌, ℕ, ◌-◌, length, replicate}
use Rattle.layout.specs.Limits.{path_bytes}

-- a working path: bytes, and then zeros
unfoldable pub working_path : List ℕ → List ℕ
working_path p = p ++ replicate (path_bytes - length p) 0
