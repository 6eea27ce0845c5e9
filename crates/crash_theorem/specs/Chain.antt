-- Where a queue of calls stands: at the end of a chain, along it, ended. Assumes nothing.
use Rattle.std.specs.Prelude.{◌≡◌, List, ℕ, suc, ◌+◌, ◌≤◌, T}
use Rattle.crash_theorem.specs.Pick.{All}
use Rattle.crash_theorem.specs.Store.{Store}
use Rattle.crash_theorem.specs.Change.{RecoverOf}
use Rattle.crash_theorem.specs.Events.{Event, EventOf, apply, stray, crash}
use Rattle.crash_theorem.specs.Invariant.{Inv}
use Rattle.crash_theorem.specs.Finish.{OnlyApplies}
use Rattle.crash_theorem.specs.Crash.{Safe}
use Rattle.crash_theorem.specs.Queue.{Chain, end, call, Queue, calls, image_of, decisions, over, next, play}

-- the event is no crash
abbrev pub NoCrash : {R L : Type 0} → Event R L → Type 0
NoCrash (apply i) = Unit {0}
NoCrash (stray r) = Unit {0}
NoCrash (crash b) = ⊥

module _ {𝓢 : Store} {recover : RecoverOf 𝓢} where
  -- some rows applied in turn end with a recovery done
  abbrev pub ChainEnds : Queue 𝓢 recover → Type 0
  ChainEnds q = (es : List (EventOf 𝓢)) × All OnlyApplies es × T (play q es).state.done

  -- What holds of a queue that began with all calls of the chain.
  pub record Queued {X : 𝓢.Img} (c : Chain 𝓢 recover X) (q : Queue 𝓢 recover) : Type 0 where
    -- the call in hand is safe, as for a single one
    pub safe : Safe q.change q.state
    -- no more deciding rows than calls were applied
    pub counted : decisions q ≤ calls c
    -- once the rows of a recovery have all been applied, the image is what the first k calls make of it, k counting the deciding rows applied
    pub outcome : T q.state.done → q.state.img ≡ image_of (decisions q) c
    -- once the rows of all calls have all been applied, and no crash came, every call is decided and the image is what all of them make of it
    pub ordered : T (over q) → (decisions q ≡ calls c) × (q.state.img ≡ image_of (calls c) c)
    -- a recovery with buffers that are long enough can be carried through
    pub can_finish : (b : 𝓢.Lent) → T (𝓢.enough b q.state.img) → ChainEnds (next q (crash b))

  -- no call is left
  abbrev pub ChainEnded : {X : 𝓢.Img} → Chain 𝓢 recover X → Type 0
  ChainEnded end = Unit {0}
  ChainEnded (call 𝓒 o r e c) = ⊥

  -- where the queue stands in the chain
  pub record Along {X : 𝓢.Img} (c : Chain 𝓢 recover X) (q : Queue 𝓢 recover) : Type 0 where
    -- the call in hand keeps its invariant
    pub inv : Inv q.change q.state
    -- it began on the image of the calls before it
    pub here : image_of q.past c ≡ q.change.before
    -- the calls after it go on from there
    pub onwards : (j : ℕ) → image_of (suc (q.past + j)) c ≡ image_of j q.later
    -- no call was left out
    pub total : calls c ≡ suc (q.past + calls q.later)

  -- the call in hand is over only if it is the last
  abbrev pub Last : Queue 𝓢 recover → Type 0
  Last q = T (over q) → ChainEnded q.later
