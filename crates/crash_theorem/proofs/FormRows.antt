-- Rows of another form that do what the store's rows say, and a change given in it. Assumes nothing.
use Rattle.std.specs.Prelude.{◌≡◌, not, [], ◌∷◌, T}
use Rattle.std.proofs.Math.Option.{none, some}
use Rattle.crash_theorem.specs.Pick.{All}
use Rattle.crash_theorem.specs.Store.{Store, Rows}
use Rattle.crash_theorem.specs.Change.{RecoverOf, Change}
use Rattle.crash_theorem.specs.Form.{Form, store_of, Does}

module _ {𝓢 : Store} (F : Form 𝓢) where
  -- one by one
  abbrev pub Do : Rows (store_of F) → Rows 𝓢 → Type 0
  Do [] [] = Unit {0}
  Do [] (w ∷ ws) = ⊥
  Do (r ∷ rs) [] = ⊥
  Do (r ∷ rs) (w ∷ ws) = Does F r w × Do rs ws

  -- ---- a change in rows of this form

  -- the change with other rows and another recovery: what it makes of an image stays
  abbrev pub in_form : Change 𝓢 → Rows (store_of F) → F.Row → Rows (store_of F) → RecoverOf (store_of F) → Change (store_of F)
  in_form 𝓒 ahead decide behind recover = record {
    before = 𝓒.before;
    after = 𝓒.after;
    journal = 𝓒.journal;
    marked = 𝓒.marked;
    first = 𝓒.first;
    last = 𝓒.last;
    ahead = ahead;
    decide = decide;
    behind = behind;
    pending = 𝓒.pending;
    recover = recover;
  }

  -- The change 𝓙 is 𝓒 in rows of this form.
  pub record Carries (𝓒 : Change 𝓢) (𝓙 : Change (store_of F)) : Type 1 where
    -- but for its rows and its recovery it is the same
    pub same : in_form 𝓒 𝓙.ahead 𝓙.decide 𝓙.behind 𝓙.recover ≡ 𝓙
    -- its rows ahead of the deciding one do what those of 𝓒 say
    pub ahead : Do 𝓙.ahead 𝓒.ahead
    -- so does the deciding one
    pub decide : Does F 𝓙.decide 𝓒.decide
    -- and so do those after it
    pub behind : Do 𝓙.behind 𝓒.behind

  -- The recovery `given` is `recover` in rows of this form, on images of the layout.
  pub record Follows (recover : RecoverOf 𝓢) (given : RecoverOf (store_of F)) : Type 0 where
    -- lent enough, it answers where the other does, with rows that do what the other's say
    pub answers : (b : F.Lent) (X : 𝓢.Img) → 𝓢.Ok X → T (F.enough b X) → (ws : Rows 𝓢) → All 𝓢.Fits ws → recover (F.lends b) X ≡ some ws
        → (rs : Rows (store_of F)) × (given b X ≡ some rs) × Do rs ws
    -- and lent too little, it refuses
    pub refuses : (b : F.Lent) (X : 𝓢.Img) → 𝓢.Ok X → T (not (F.enough b X)) → given b X ≡ none
