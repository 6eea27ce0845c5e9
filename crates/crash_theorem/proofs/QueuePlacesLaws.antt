-- The queue's own rule and the events agree on which row may be applied. Assumes nothing.
use Rattle.std.specs.Prelude.{◌≡◌, refl, Bool, true, false, not, ◌&&◌, ◌||◌, List, [], ◌∷◌, ◌++◌, ℕ, zero, suc, ◌<◌, T, eqb, ltb, leb}
use Rattle.std.proofs.Common.{sym, ap, ap₂, ◌∙◌, inl, inr, arith, eqb→eq, ltb→lt, nltb→le, leb→le, lt→ltb, le→leb}
use Rattle.std.proofs.Math.Option.{Option, none, some}
use Rattle.std.proofs.Math.Dec.{not_T}
use Rattle.crash_theorem.specs.Pick.{All, Has, Empty, Pick, here, there, Picked, pick, further}
use Rattle.crash_theorem.proofs.PickLaws.{empty_null, all_has, all_join}
use Rattle.crash_theorem.specs.Turn.{lowest}
use Rattle.crash_theorem.specs.Store.{Store, Rows}
use Rattle.crash_theorem.specs.Change.{RecoverOf, Change, plan}
use Rattle.crash_theorem.specs.Events.{EventOf, Phase, own, recovering, stopped, through}
use Rattle.crash_theorem.specs.Obligations.{Obligations}
use Rattle.crash_theorem.specs.Queue.{Chain, end, call, Queue, play}
use Rattle.crash_theorem.specs.Chain.{Last, ChainEnded}
use Rattle.crash_theorem.proofs.ChainLaws.{queue, chain_along}
use Rattle.crash_theorem.specs.QueuePlaces.{Item, numbered, precedes, unblocked, permits, permitted, comes, event_counts, later_rows, still_queued, PlacesAgree}

-- ---- tests

same_test : (a b : Bool) → (T a → T b) → (T b → T a) → a ≡ b
same_test true true f g = refl
same_test true false f g = absurd (f tt)
same_test false true f g = absurd (g tt)
same_test false false f g = refl

not_below : (a b : ℕ) → not (ltb a b) ≡ leb b a
not_below a b =
    same_test (not (ltb a b)) (leb b a) (λ t. le→leb b a (nltb→le a b t))
    (λ t. not_T (ltb a b) (λ h. omega (arith, leb→le b a t, ltb→lt a b h)))

none_some : {A : Type 0} {x : A} → none ≡ some x → ⊥
none_some e = let z : ◌≡◌ {A = ℕ} 0 1 = cc in omega arith

pick_has : {A : Type 0} {r : A} {xs ys : List A} → Pick r xs ys → Has xs r
pick_has here = inl refl
pick_has (there p) = inr (pick_has p)

module _ (𝓢 : Store) where
  -- of a later call
  abbrev Later : Item 𝓢 → Type 0
  Later u = 0 < u.0

  later_waits : (u : Item 𝓢) (r : 𝓢.Row) → Later u → not (precedes 𝓢 u (0, r)) ≡ true
  later_waits u r h = go (ltb u.0 0) (ltb→lt u.0 0) (eqb u.0 0) (eqb→eq u.0 0)
    where
      go : (a : Bool) → (T a → u.0 < 0) → (b : Bool) → (T b → u.0 ≡ 0) → not (a || (b && ltb (𝓢.group u.1) (𝓢.group r))) ≡ true
      go true f b g = absurd (omega (arith, f tt))
      go false f true g = absurd (omega (arith, g tt))
      go false f false g = refl

  first_blocks : (w : 𝓢.Row) (t : Item 𝓢) → Later t → not (precedes 𝓢 (0, w) t) ≡ false
  first_blocks w t h = go (ltb 0 t.0) (lt→ltb 0 t.0 h)
    where
      go : (a : Bool) → T a → not (a || (eqb 0 t.0 && ltb (𝓢.group w) (𝓢.group t.1))) ≡ false
      go true h = refl
      go false h = absurd h

  -- a row of the call in hand waits for the lower groups of that call alone
  first_turn : (r : 𝓢.Row) (rest : Rows 𝓢) (L : List (Item 𝓢)) → All Later L
      → unblocked 𝓢 (0, r) (numbered 𝓢 0 rest ++ L) ≡ lowest 𝓢.group (𝓢.group r) rest
  first_turn r [] [] h = refl
  first_turn r [] (u ∷ L) h = rw (later_waits u r h.0) (first_turn r [] L h.1)
  first_turn r (x ∷ rest) L h = ap₂ ◌&&◌ (not_below (𝓢.group x) (𝓢.group r)) (first_turn r rest L h)

  -- what a place among all rows points to
  data Points (i : ℕ) (W : Rows 𝓢) (L : List (Item 𝓢)) : Type 0 where
    -- a row of the call in hand
    hand : (p : Picked W) (e : Picked (numbered 𝓢 0 W ++ L)) → pick i W ≡ some p → pick i (numbered 𝓢 0 W ++ L) ≡ some e
        → e.0 ≡ (0, p.0) → e.1 ≡ numbered 𝓢 0 p.1 ++ L → Points i W L
    -- a row of a later call
    other : (e : Picked (numbered 𝓢 0 W ++ L)) (M : List (Item 𝓢)) → pick i W ≡ none → pick i (numbered 𝓢 0 W ++ L) ≡ some e
        → Has L e.0 → e.1 ≡ numbered 𝓢 0 W ++ M → Points i W L
    -- nothing
    past : pick i W ≡ none → pick i (numbered 𝓢 0 W ++ L) ≡ none → Points i W L

  points : (i : ℕ) (W : Rows 𝓢) (L : List (Item 𝓢)) → Points i W L
  points i [] L = go (pick i L) refl
    where
      go : (o : Option (Picked L)) → pick i L ≡ o → Points i [] L
      go none e = past refl e
      go (some p) e = other p p.1 refl e (pick_has p.2) refl
  points zero (w ∷ W) L = hand (w, W, here) ((0, w), numbered 𝓢 0 W ++ L, here) refl refl refl refl
  points (suc i) (w ∷ W) L = on (points i W L)
    where
      N : List (Item 𝓢)
      N = numbered 𝓢 0 W ++ L

      on : Points i W L → Points (suc i) (w ∷ W) L
      on (hand p e a b c d) = hand (p.0, w ∷ p.1, there p.2) (e.0, (0, w) ∷ e.1, there e.2) (ap (further w W) a) (ap (further (0, w) N) b) c
          (ap (λ (l : List (Item 𝓢)). (0, w) ∷ l) d)
      on (other e M a b c d) = other (e.0, (0, w) ∷ e.1, there e.2) M (ap (further w W) a) (ap (further (0, w) N) b) c
          (ap (λ (l : List (Item 𝓢)). (0, w) ∷ l) d)
      on (past a b) = past (ap (further w W) a) (ap (further (0, w) N) b)

  none_of : (L : List (Item 𝓢)) → Empty L → (t : Item 𝓢) → Has L t → ⊥
  none_of [] h t a = a
  none_of (u ∷ L) h t a = h

  -- a row of a later call waits for any row of the call in hand
  blocked : (W : Rows 𝓢) (L M : List (Item 𝓢)) → All Later L → (Empty W → Empty L) → (t : Item 𝓢) → Has L t
      → unblocked 𝓢 t (numbered 𝓢 0 W ++ M) ≡ false
  blocked [] L M h n t a = absurd (none_of L (n tt) t a)
  blocked (w ∷ W) L M h n t a = ap (λ (b : Bool). b && unblocked 𝓢 t (numbered 𝓢 0 W ++ M)) (first_blocks w t (all_has Later L h t a))

  agree : (i : ℕ) (W : Rows 𝓢) (L : List (Item 𝓢)) → All Later L → (Empty W → Empty L) → Points i W L
      → permitted 𝓢 i (numbered 𝓢 0 W ++ L) ≡ event_counts 𝓢 i W
  agree i W L h n (hand p e a b c d) = ap (permits 𝓢) b ∙ (rw (c, d) (first_turn p.0 p.1 L h)) ∙ sym (ap (comes 𝓢) a)
  agree i W L h n (other e M a b c d) = ap (permits 𝓢) b ∙ (rw d (blocked W L M h n e.0 c)) ∙ sym (ap (comes 𝓢) a)
  agree i W L h n (past a b) = ap (permits 𝓢) b ∙ sym (ap (comes 𝓢) a)

  row_of : (i : ℕ) (W : Rows 𝓢) (L : List (Item 𝓢)) → Points i W L → (p : Picked W) → pick i W ≡ some p
      → (e : Picked (numbered 𝓢 0 W ++ L)) × (pick i (numbered 𝓢 0 W ++ L) ≡ some e) × (e.0 ≡ (0, p.0))
  row_of i W L (hand q e a b c d) p k = (e, b, c ∙ ap (λ (x : Option (Picked W)). (0, row x)) (sym a ∙ k))
    where
      row : Option (Picked W) → 𝓢.Row
      row none = q.0
      row (some p) = p.0
  row_of i W L (other e M a b c d) p k = absurd (none_some (sym a ∙ k))
  row_of i W L (past a b) p k = absurd (none_some (sym a ∙ k))

  numbered_later : (n : ℕ) → 0 < n → (rs : Rows 𝓢) → All Later (numbered 𝓢 n rs)
  numbered_later n h [] = tt
  numbered_later n h (r ∷ rs) = (h, numbered_later n h rs)

module _ {𝓢 : Store} {recover : RecoverOf 𝓢} where
  rows_later : {X : 𝓢.Img} (n : ℕ) → 0 < n → (c : Chain 𝓢 recover X) → All (Later 𝓢) (later_rows n c)
  rows_later n h end = tt
  rows_later n h (call 𝓒 o r e c) =
      all_join (Later 𝓢) (numbered 𝓢 n (plan 𝓒)) (later_rows (suc n) c) (numbered_later 𝓢 n h (plan 𝓒)) (rows_later (suc n) (omega arith) c)

  still_later : {X : 𝓢.Img} (ph : Phase) (c : Chain 𝓢 recover X) → All (Later 𝓢) (still_queued ph c)
  still_later own c = rows_later 1 (omega arith) c
  still_later recovering c = tt
  still_later stopped c = tt

  -- where nothing of the call in hand waits, nothing waits at all
  nothing_else : {X : 𝓢.Img} (ph : Phase) (W : Rows 𝓢) (c : Chain 𝓢 recover X) → (T (through ph W) → ChainEnded c) → Empty W
      → Empty (still_queued ph c)
  nothing_else own W end f e = tt
  nothing_else own W (call 𝓒 o r x c) f e = absurd (f (empty_null W e))
  nothing_else recovering W c f e = tt
  nothing_else stopped W c f e = tt

  pub places_agree : (q : Queue 𝓢 recover) → Last q → (i : ℕ) → PlacesAgree q i
  places_agree q l i =
      let W = q.state.waiting in
      let L = still_queued q.state.phase q.later in
      let at = points 𝓢 i W L in
      record {
        agrees = agree 𝓢 i W L (still_later q.state.phase q.later) (nothing_else q.state.phase W q.later l) at;
        same_row = row_of 𝓢 i W L at;
      }

  -- in every queue that events lead to
  pub chain_placed : (𝓒 : Change 𝓢) (𝓞 : Obligations 𝓒) (r : 𝓒.recover ≡ recover) (later : Chain 𝓢 recover 𝓒.after)
      (es : List (EventOf 𝓢)) (i : ℕ) → PlacesAgree (play (queue 𝓒 𝓞 r later) es) i
  chain_placed 𝓒 𝓞 r later es i = places_agree (play (queue 𝓒 𝓞 r later) es) (chain_along 𝓒 𝓞 r later es).1 i
