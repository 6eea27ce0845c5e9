-- What is known before the decision. Assumes nothing.
use Rattle.std.specs.Prelude.{◌≡◌, ◌⊎◌, ◌≢◌, false, ◌∷◌, ◌++◌}
use Rattle.crash_theorem.specs.Pick.{All}
use Rattle.crash_theorem.specs.Store.{Store, Rows, Covers}
use Rattle.crash_theorem.specs.Change.{Change}
use Rattle.crash_theorem.specs.Obligations.{OnTheWay, Ahead}

module _ {𝓢 : Store} (𝓒 : Change 𝓢) where
  -- the invariant until the deciding row is applied
  pub record Opening (X : 𝓢.Img) (W : Rows 𝓢) : Type 0 where
    -- the rows ahead that still wait
    pub left : Rows 𝓢
    -- and after them all others
    pub shape : W ≡ left ++ 𝓒.decide ∷ 𝓒.behind
    -- the image is on the way back
    pub inside : OnTheWay 𝓒 false X
    -- each row ahead is in order
    pub rows : All (Ahead 𝓒) left
    -- a record that a row ahead writes is as after, or the row still waits
    pub written : (k : 𝓢.Key) → k ≢ 𝓒.journal → Covers 𝓢 𝓒.ahead k → (𝓢.get X k ≡ 𝓢.get 𝓒.after k) ⊎ Covers 𝓢 left k
    -- the journal record is set, or a row that sets it still waits
    pub opened : (𝓢.get X 𝓒.journal ≡ 𝓒.marked) ⊎ Covers 𝓢 left 𝓒.journal ⊎ (𝓢.key 𝓒.decide ≡ 𝓒.journal)
