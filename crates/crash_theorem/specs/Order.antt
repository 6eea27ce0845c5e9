-- Permitted orders of the rows of a plan. Assumes nothing.
use Rattle.std.specs.Prelude.{[], ◌∷◌, T}
use Rattle.crash_theorem.specs.Pick.{Pick}
use Rattle.crash_theorem.specs.Turn.{lowest, Low}
use Rattle.crash_theorem.specs.Store.{Store, Rows}

module _ (𝓢 : Store) where
  -- the second list is a permitted order of the first: each row in turn still waits, and no row of a lower group does
  pub data Permitted : Rows 𝓢 → Rows 𝓢 → Type 0 where
    end : Permitted [] []
    next : {r : 𝓢.Row} {W W' rs : Rows 𝓢} → Pick r W W' → T (lowest 𝓢.group (𝓢.group r) W') → Permitted W' rs → Permitted W (r ∷ rs)

  -- the rows stand in the order of their groups
  abbrev pub Sorted : Rows 𝓢 → Type 0
  Sorted [] = Unit {0}
  Sorted (r ∷ rs) = Low 𝓢.group r rs × Sorted rs
