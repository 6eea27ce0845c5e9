-- Rows that lead to a goal: what is known of the image and of what waits, once all that waits leads there. Assumes nothing.
use Rattle.std.specs.Prelude.{◌≡◌, ◌⊎◌, ◌≢◌, Bool, true, ◌<◌, T}
use Rattle.crash_theorem.specs.Pick.{All, Empty}
use Rattle.crash_theorem.specs.Store.{Store, Rows}
use Rattle.crash_theorem.specs.Change.{Change, goal}
use Rattle.crash_theorem.specs.Events.{Phase, own, recovering, stopped}
use Rattle.crash_theorem.specs.Obligations.{OnTheWay, Settles, Cover}

module _ {𝓢 : Store} (𝓒 : Change 𝓢) where
  -- a record other than the journal's is as before or as after
  abbrev pub Mixed : 𝓢.Key → 𝓢.Body → Type 0
  Mixed k b = k ≢ 𝓒.journal → (b ≡ 𝓢.get 𝓒.before k) ⊎ (b ≡ 𝓢.get 𝓒.after k)

  -- it is pending, or as in the goal
  abbrev pub Fixed : Bool → 𝓢.Key → 𝓢.Body → Type 0
  Fixed d k b = k ≢ 𝓒.journal → 𝓒.pending d k ⊎ (b ≡ 𝓢.get (goal 𝓒 d) k)

  -- what is known in each phase: an own plan is decided and its rows are behind the deciding one; and unless recovery was refused, the
  -- waiting rows leave out nothing
  abbrev pub Kept : Phase → Bool → 𝓢.Img → Rows 𝓢 → Type 0
  Kept own d X W = (d ≡ true) × Cover 𝓒 d X W × All (λ r. 𝓢.group 𝓒.decide < 𝓢.group r) W
  Kept recovering d X W = Cover 𝓒 d X W
  Kept stopped d X W = Empty W

  pub record Settling (phase : Phase) (d done : Bool) (X : 𝓢.Img) (W : Rows 𝓢) : Type 0 where
    -- the image is on the way
    pub inside : OnTheWay 𝓒 d X
    -- what is known in its phase
    pub kept : Kept phase d X W
    -- each waiting row leads to the goal
    pub rows : All (Settles 𝓒 d) W
    -- once a recovery is done the image is the goal
    pub ended : T done → X ≡ goal 𝓒 d
