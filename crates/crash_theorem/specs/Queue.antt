-- A queue of calls, each planned on the image that the one before leaves, and the events that can befall it. Assumes nothing.
use Rattle.std.specs.Prelude.{◌≡◌, Bool, true, false, List, [], ◌∷◌, ℕ, zero, suc, ◌+◌}
use Rattle.crash_theorem.specs.Store.{Store}
use Rattle.crash_theorem.specs.Change.{RecoverOf, Change}
use Rattle.crash_theorem.specs.Events.{EventOf, through, St, decided, begin, step}
use Rattle.crash_theorem.specs.Obligations.{Obligations}

-- The calls from an image on. Recovery is one and the same for all of them: it is not told which call was in hand.
pub data Chain (𝓢 : Store) (recover : RecoverOf 𝓢) : 𝓢.Img → Type 1 where
  -- no call
  end : {X : 𝓢.Img} → Chain 𝓢 recover X
  -- a call that meets its obligations, was planned on the image, and is followed by others from its outcome on
  call : {X : 𝓢.Img} (𝓒 : Change 𝓢) → Obligations 𝓒 → 𝓒.recover ≡ recover → 𝓒.before ≡ X → Chain 𝓢 recover 𝓒.after → Chain 𝓢 recover X

-- A row waits for all rows of earlier calls, so only those of the first call left can be applied: that call is in hand, and a place past
-- its rows names one whose turn has not come. A call that is entered while others wait belongs to the chain from the start, since its rows
-- could not be applied sooner. One that writes nothing has no rows, and is in no queue.
pub record Queue (𝓢 : Store) (recover : RecoverOf 𝓢) : Type 1 where
  -- the call in hand
  pub change : Change 𝓢
  -- what it owes
  pub owed : Obligations change
  -- the image, the rows of the call in hand that wait, and so on
  pub state : St change
  -- the calls queued after it
  pub later : Chain 𝓢 recover change.after
  -- how many deciding rows were applied for the calls before it
  pub past : ℕ

-- a deciding row counts for one
abbrev pub one : Bool → ℕ
one false = 0
one true = 1

module _ {𝓢 : Store} {recover : RecoverOf 𝓢} where
  -- how many calls
  abbrev pub calls : {X : 𝓢.Img} → Chain 𝓢 recover X → ℕ
  calls end = 0
  calls (call 𝓒 o r e c) = suc (calls c)

  -- what the first k calls make of the image
  abbrev pub image_of : {X : 𝓢.Img} → ℕ → Chain 𝓢 recover X → 𝓢.Img
  image_of {X} zero c = X
  image_of {X} (suc k) end = X
  image_of {X} (suc k) (call 𝓒 o r e c) = image_of {X = 𝓒.after} k c

  -- how many deciding rows were applied in the list of events
  abbrev pub decisions : Queue 𝓢 recover → ℕ
  decisions q = q.past + one (decided q.change q.state)

  -- the call in hand meets an event
  abbrev pub stepped : Queue 𝓢 recover → EventOf 𝓢 → Queue 𝓢 recover
  stepped q e = record { change = q.change; owed = q.owed; state = step q.change q.state e; later = q.later; past = q.past }

  -- whether its own rows have all been applied, and no crash came
  abbrev pub over : Queue 𝓢 recover → Bool
  over q = through q.state.phase q.state.waiting

  -- then the next call comes in hand, on the image as it stands, if there is one
  abbrev pub onward : Bool → (q : Queue 𝓢 recover) → Chain 𝓢 recover q.change.after → Queue 𝓢 recover
  onward false q c = q
  onward true q end = q
  onward true q (call 𝓒 o r e c) = record { change = 𝓒; owed = o; state = begin 𝓒 q.state.img; later = c; past = decisions q }

  -- the queue after an event
  abbrev pub next : Queue 𝓢 recover → EventOf 𝓢 → Queue 𝓢 recover
  next q e = let r = stepped q e in onward (over r) r q.later

  -- and after a list of them
  abbrev pub play : Queue 𝓢 recover → List (EventOf 𝓢) → Queue 𝓢 recover
  play q [] = q
  play q (e ∷ es) = play (next q e) es
