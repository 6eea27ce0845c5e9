-- The crash theorem as a statement: what holds after every list of events. Assumes nothing.
use Rattle.std.specs.Prelude.{◌≡◌, ◌⊎◌, ◌↔◌, not, T}
use Rattle.std.proofs.Math.Option.{none, some}
use Rattle.crash_theorem.specs.Pick.{All, Has, Empty}
use Rattle.crash_theorem.specs.Turn.{Turn}
use Rattle.crash_theorem.specs.Store.{Store, Rows}
use Rattle.crash_theorem.specs.Change.{Change, goal}
use Rattle.crash_theorem.specs.Events.{crash, through, St, decided, step}
use Rattle.crash_theorem.specs.Obligations.{OnTheWay}
use Rattle.crash_theorem.specs.Finish.{Finishes}

module _ {𝓢 : Store} (𝓒 : Change 𝓢) where
  -- What holds of a state.
  pub record Safe (s : St 𝓒) : Type 0 where
    -- the image is on the way: every record but the journal's is as before or as after
    pub on_the_way : OnTheWay 𝓒 (decided 𝓒 s) s.img
    -- recovery answers with rows, whichever buffers it is lent that are long enough
    pub recoverable : (b : 𝓢.Lent) → T (𝓢.enough b s.img) → (w : Rows 𝓢) × (𝓒.recover b s.img ≡ some w)
    -- and refuses with any that are too short
    pub refused : (b : 𝓢.Lent) → T (not (𝓢.enough b s.img)) → 𝓒.recover b s.img ≡ none
    -- an accepted recovery can be carried through
    pub can_finish : (b : 𝓢.Lent) → T (𝓢.enough b s.img) → Finishes 𝓒 (step 𝓒 s (crash b))
    -- each waiting row is accepted
    pub accepted : All (λ r. T (𝓢.accepts s.img r)) s.waiting
    -- if any row waits, the turn of one has come
    pub progress : Empty s.waiting ⊎ Turn 𝓢.group s.waiting
    -- once the rows of a recovery have all been applied, the image is the one before or the one after, by the decision
    pub outcome : T s.done → s.img ≡ goal 𝓒 (decided 𝓒 s)
    -- once the call's own rows have all been applied, and no crash came, it is the one after
    pub whole : T (through s.phase s.waiting) → s.img ≡ 𝓒.after
    -- and the decision is whether the deciding row itself was applied in the list
    pub decision : T (decided 𝓒 s) ↔ Has s.applied 𝓒.decide
