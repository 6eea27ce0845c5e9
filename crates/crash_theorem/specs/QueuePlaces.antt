-- The queue's own rule: a place among all rows queued, and which of them may be applied. Assumes nothing.
use Rattle.std.specs.Prelude.{◌≡◌, Bool, true, false, not, ◌&&◌, ◌||◌, List, [], ◌∷◌, ◌++◌, ℕ, suc, eqb, ltb}
use Rattle.std.proofs.Math.Option.{Option, none, some}
use Rattle.crash_theorem.specs.Pick.{Picked, pick}
use Rattle.crash_theorem.specs.Turn.{lowest}
use Rattle.crash_theorem.specs.Store.{Store, Rows}
use Rattle.crash_theorem.specs.Change.{RecoverOf, plan}
use Rattle.crash_theorem.specs.Events.{Phase, own, recovering, stopped}
use Rattle.crash_theorem.specs.Queue.{Chain, end, call, Queue}

module _ (𝓢 : Store) where
  -- a queued row: the number of its call, from the one in hand on, and the row
  abbrev pub Item : Type 0
  Item = ℕ × 𝓢.Row

  abbrev pub numbered : ℕ → Rows 𝓢 → List Item
  numbered n [] = []
  numbered n (r ∷ rs) = (n, r) ∷ numbered n rs

  -- u has to be applied ahead of t: it is of an earlier call, or of an earlier group of the same
  abbrev pub precedes : Item → Item → Bool
  precedes u t = ltb u.0 t.0 || (eqb u.0 t.0 && ltb (𝓢.group u.1) (𝓢.group t.1))

  -- none of the others has to be applied ahead of t
  abbrev pub unblocked : Item → List Item → Bool
  unblocked t [] = true
  unblocked t (u ∷ us) = not (precedes u t) && unblocked t us

  -- the item picked is there, and nothing has to be applied ahead of it
  abbrev pub permits : {es : List Item} → Option (Picked es) → Bool
  permits none = false
  permits (some p) = unblocked p.0 p.1

  -- the row at a place among all that are queued may be applied
  abbrev pub permitted : ℕ → List Item → Bool
  permitted i es = permits (pick i es)

  -- the event `apply i` counts
  abbrev pub comes : {W : Rows 𝓢} → Option (Picked W) → Bool
  comes none = false
  comes (some p) = lowest 𝓢.group (𝓢.group p.0) p.1

  abbrev pub event_counts : ℕ → Rows 𝓢 → Bool
  event_counts i W = comes (pick i W)

module _ {𝓢 : Store} {recover : RecoverOf 𝓢} where
  -- the rows of calls not yet in hand
  abbrev pub later_rows : {X : 𝓢.Img} → ℕ → Chain 𝓢 recover X → List (Item 𝓢)
  later_rows n end = []
  later_rows n (call 𝓒 o r e c) = numbered 𝓢 n (plan 𝓒) ++ later_rows (suc n) c

  -- a crash loses them
  abbrev pub still_queued : {X : 𝓢.Img} → Phase → Chain 𝓢 recover X → List (Item 𝓢)
  still_queued own c = later_rows 1 c
  still_queued recovering c = []
  still_queued stopped c = []

  -- all rows queued, in the order entered
  abbrev pub queued : Queue 𝓢 recover → List (Item 𝓢)
  queued q = numbered 𝓢 0 q.state.waiting ++ still_queued q.state.phase q.later

  -- the rule and the event agree
  pub record PlacesAgree (q : Queue 𝓢 recover) (i : ℕ) : Type 0 where
    -- on whether the row at the place is applied
    pub agrees : permitted 𝓢 i (queued q) ≡ event_counts 𝓢 i q.state.waiting
    -- and on which row that is: one of the call in hand
    pub same_row : (p : Picked q.state.waiting) → pick i q.state.waiting ≡ some p
        → (e : Picked (queued q)) × (pick i (queued q) ≡ some e) × (e.0 ≡ (0, p.0))
