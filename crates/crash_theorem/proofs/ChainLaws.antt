-- A queue of calls, crashed anywhere, gives the image of the first k; and played to the end, that of all. Assumes nothing.
use Rattle.std.specs.Prelude.{◌≡◌, refl, Bool, true, false, List, [], ◌∷◌, ◌++◌, ℕ, suc, ◌+◌, ◌≤◌, T}
use Rattle.std.proofs.Common.{sym, ap, ◌∙◌, subst, arith}
use Rattle.std.proofs.Math.Option.{Option, none, some}
use Rattle.crash_theorem.specs.Pick.{All, Empty, Picked, pick}
use Rattle.crash_theorem.proofs.PickLaws.{empty_null}
use Rattle.crash_theorem.specs.Turn.{lowest}
use Rattle.crash_theorem.specs.Store.{Store, Rows}
use Rattle.crash_theorem.specs.Change.{RecoverOf, Change, goal}
use Rattle.crash_theorem.specs.Events.{EventOf, apply, stray, crash, Phase, own, recovering, through, St, decided, start, turned, turn, tried, answered, step, run}
use Rattle.crash_theorem.specs.Obligations.{Obligations}
use Rattle.crash_theorem.proofs.InvariantLaws.{whole, ended_of, start_inv, step_inv}
use Rattle.crash_theorem.specs.Finish.{OnlyApplies}
use Rattle.crash_theorem.specs.Crash.{Safe}
use Rattle.crash_theorem.proofs.CrashProof.{safe_of}
use Rattle.crash_theorem.specs.Queue.{Chain, end, call, Queue, one, calls, image_of, stepped, over, onward, next, play}
use Rattle.crash_theorem.specs.Chain.{NoCrash, ChainEnds, Queued, ChainEnded, Along, Last}

-- some row of a whole plan waits
waits : {R : Type 0} (A : List R) (d : R) (B : List R) → T (through own (A ++ d ∷ B)) → ⊥
waits [] d B t = t
waits (r ∷ A) d B t = t

module _ {𝓢 : Store} (𝓒 : Change 𝓢) where
  -- only a crash changes whose rows wait
  step_phase : (s : St 𝓒) (e : EventOf 𝓢) → NoCrash e → (step 𝓒 s e).phase ≡ s.phase
  step_phase s (apply i) n = picked (pick i s.waiting)
    where
      go : (b : Bool) (p : Picked s.waiting) → (turned 𝓒 b s p.0 p.1).phase ≡ s.phase
      go true p = refl
      go false p = refl

      picked : (o : Option (Picked s.waiting)) → (turn 𝓒 s o).phase ≡ s.phase
      picked none = refl
      picked (some p) = go (lowest 𝓢.group (𝓢.group p.0) p.1) p
  step_phase s (stray r) n = go (𝓢.accepts s.img r)
    where
      go : (b : Bool) → (tried 𝓒 b s r).phase ≡ s.phase
      go true = refl
      go false = refl
  step_phase s (crash b) n = absurd n

module _ {𝓢 : Store} {recover : RecoverOf 𝓢} where
  -- ---- the proof

  none_left : {X : 𝓢.Img} (c : Chain 𝓢 recover X) → ChainEnded c → calls c ≡ 0
  none_left end h = refl
  none_left (call 𝓒 o r e c) h = absurd h

  -- after a crash no further call comes in hand: the queue meets events as the call in hand does
  next_recovering : (q : Queue 𝓢 recover) (e : EventOf 𝓢) → (step q.change q.state e).phase ≡ recovering → next q e ≡ stepped q e
  next_recovering q e h =
      let r = stepped q e in
      ap (λ (b : Bool). onward b r q.later) (ap (λ (ph : Phase). through ph r.state.waiting) h)

  play_recovering : (q : Queue 𝓢 recover) (es : List (EventOf 𝓢)) → All OnlyApplies es → q.state.phase ≡ recovering
      → (play q es).state ≡ run q.change q.state es
  play_recovering q [] a h = refl
  play_recovering q (apply i ∷ es) a h =
      let k = step_phase q.change q.state (apply i) tt ∙ h in
      ap (λ (r : Queue 𝓢 recover). (play r es).state) (next_recovering q (apply i) k) ∙ play_recovering (stepped q (apply i)) es a.1 k
  play_recovering q (stray r ∷ es) a h = absurd a.0
  play_recovering q (crash b ∷ es) a h = absurd a.0

  ends_of : (q : Queue 𝓢 recover) → Safe q.change q.state → (b : 𝓢.Lent) → T (𝓢.enough b q.state.img) → ChainEnds (next q (crash b))
  ends_of q s b t =
      let (es, a, d) = s.can_finish b t in
      let h = ap (λ (o : Option (Rows 𝓢)). (answered q.change q.state o).phase) (s.recoverable b t).1 in
      let e = ap (λ (r : Queue 𝓢 recover). (play r es).state) (next_recovering q (crash b) h) ∙ play_recovering (stepped q (crash b)) es a h in
      (es, a, subst (λ (x : St q.change). T x.done) (sym e) d)

  module _ {X : 𝓢.Img} (c : Chain 𝓢 recover X) where
    same_count : (m n : ℕ) → m ≡ n → image_of m c ≡ image_of n c
    same_count m n e = ap (λ (k : ℕ). image_of k c) e

    -- the next call comes in hand: its plan was made for the image as it stands
    onward_along : (𝓒 : Change 𝓢) (𝓞 : Obligations 𝓒) (s : St 𝓒) (l : Chain 𝓢 recover 𝓒.after) (n : ℕ)
        → let q : Queue 𝓢 recover = record { change = 𝓒; owed = 𝓞; state = s; later = l; past = n } in
        Along c q → T (over q) → Along c (onward true q l) × Last (onward true q l)
    onward_along 𝓒 𝓞 s end n a t = (a, λ _. tt)
    onward_along 𝓒 𝓞 s (call 𝓒' 𝓞' r e l) n a t =
        let w = whole 𝓒 𝓞.orderly s.phase s.waiting t a.inv in
        let k : one (decided 𝓒 s) ≡ 1 = ap one w.0 in (
          record {
            inv = rw (w.1 ∙ sym e) (start_inv 𝓒' 𝓞'.orderly);
            here = same_count (n + one (decided 𝓒 s)) (suc (n + 0)) (omega arith) ∙ a.onwards 0 ∙ sym e;
            onwards = λ j. same_count (suc (n + one (decided 𝓒 s) + j)) (suc (n + suc j)) (omega arith) ∙ a.onwards (suc j);
            total = omega (arith, a.total);
          },
          λ t. absurd (waits 𝓒'.ahead 𝓒'.decide 𝓒'.behind t),
        )

    step_along : (q : Queue 𝓢 recover) (e : EventOf 𝓢) → Along c q → Along c (stepped q e)
    step_along q e a =
        let i = step_inv q.change q.owed q.state e a.inv in
        record { inv = i; here = a.here; onwards = a.onwards; total = a.total }

    next_along : (q : Queue 𝓢 recover) (e : EventOf 𝓢) → Along c q → Along c (next q e) × Last (next q e)
    next_along q e a = go (over r) (λ t. t) (λ t. t)
      where
        r : Queue 𝓢 recover
        r = stepped q e

        go : (b : Bool) → (T b → T (over r)) → (T (over r) → T b) → Along c (onward b r q.later) × Last (onward b r q.later)
        go true f g = onward_along r.change r.owed r.state r.later r.past (step_along q e a) (f tt)
        go false f g = (step_along q e a, λ t. absurd (g t))

    play_along : (q : Queue 𝓢 recover) (es : List (EventOf 𝓢)) → Along c q → Last q → Along c (play q es) × Last (play q es)
    play_along q [] a l = (a, l)
    play_along q (e ∷ es) a l = let n = next_along q e a in play_along (next q e) es n.0 n.1

    -- what the invariant says of a queue
    queued_of : (q : Queue 𝓢 recover) → Along c q → Last q → Queued c q
    queued_of q a l = record {
      safe = safe;
      can_finish = ends_of q safe;
      counted = few (decided q.change q.state);
      outcome = λ t. ended_of q.change q.state a.inv t ∙ sym (at (decided q.change q.state));
      ordered = λ t.
          let w = whole q.change q.owed.orderly q.state.phase q.state.waiting t a.inv in
          let k : one (decided q.change q.state) ≡ 1 = ap one w.0 in
          let z = none_left q.later (l t) in
          (omega (arith, a.total), w.1 ∙ sym (a.onwards 0) ∙ same_count (suc (q.past + 0)) (calls c) (omega (arith, a.total)));
    }
      where
        safe : Safe q.change q.state
        safe = safe_of q.change q.owed q.state a.inv

        at : (d : Bool) → image_of (q.past + one d) c ≡ goal q.change d
        at false = same_count (q.past + 0) q.past (omega arith) ∙ a.here
        at true = same_count (q.past + 1) (suc (q.past + 0)) (omega arith) ∙ a.onwards 0

        few : (d : Bool) → q.past + one d ≤ calls c
        few false = omega (arith, a.total)
        few true = omega (arith, a.total)

  step_own : (q : Queue 𝓢 recover) (e : EventOf 𝓢) → NoCrash e → q.state.phase ≡ own → (next q e).state.phase ≡ own
  step_own q e n h = go (over r) q.later
    where
      r : Queue 𝓢 recover
      r = stepped q e

      k : r.state.phase ≡ own
      k = step_phase q.change q.state e n ∙ h

      go : (b : Bool) (l : Chain 𝓢 recover r.change.after) → (onward b r l).state.phase ≡ own
      go false l = k
      go true end = k
      go true (call 𝓒 o s e l) = refl

  play_own : (q : Queue 𝓢 recover) (es : List (EventOf 𝓢)) → All NoCrash es → q.state.phase ≡ own → (play q es).state.phase ≡ own
  play_own q [] n h = h
  play_own q (e ∷ es) n h = play_own (next q e) es n.1 (step_own q e n.0 h)

  -- ---- the theorem

  module _ (𝓒 : Change 𝓢) (𝓞 : Obligations 𝓒) (r : 𝓒.recover ≡ recover) (later : Chain 𝓢 recover 𝓒.after) where
    -- all calls
    abbrev pub whole_chain : Chain 𝓢 recover 𝓒.before
    whole_chain = call 𝓒 𝓞 r refl later

    -- all of them wait
    abbrev pub queue : Queue 𝓢 recover
    queue = record { change = 𝓒; owed = 𝓞; state = start 𝓒; later = later; past = 0 }

    pub chain_along : (es : List (EventOf 𝓢)) → Along whole_chain (play queue es) × Last (play queue es)
    chain_along es = play_along whole_chain queue es (record {
      inv = start_inv 𝓒 𝓞.orderly;
      here = refl;
      onwards = λ j. same_count later (0 + j) j (omega arith);
      total = omega arith;
    }) (λ t. absurd (waits 𝓒.ahead 𝓒.decide 𝓒.behind t))

    -- after every list of events
    pub chain_safe : (es : List (EventOf 𝓢)) → Queued whole_chain (play queue es)
    chain_safe es = let a = chain_along es in queued_of whole_chain (play queue es) a.0 a.1

    -- without a crash, whatever order was chosen, the end is what all calls make of the image
    pub every_order : (es : List (EventOf 𝓢)) → All NoCrash es → Empty (play queue es).state.waiting
        → (play queue es).state.img ≡ image_of (calls whole_chain) whole_chain
    every_order es n e = ((chain_safe es).ordered (rw (play_own queue es n refl) (empty_null (play queue es).state.waiting e))).1
