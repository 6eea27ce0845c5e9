-- The invariant of a run is kept by every event. Assumes nothing.
use Rattle.std.specs.Prelude.{◌≡◌, refl, ◌↔◌, Bool, true, false, not, ◌||◌, List, [], ◌∷◌, ◌++◌, ◌≤◌, ◌<◌, T}
use Rattle.std.proofs.Common.{sym, ap, ◌∙◌, subst, inl, inr, ⊎_elim, arith, eqb→eq}
use Rattle.std.proofs.Math.Option.{Option, none, some}
use Rattle.std.proofs.Math.Dec.{eqb_refl}
use Rattle.crash_theorem.specs.Pick.{All, Has, Empty, Pick, Picked, pick}
use Rattle.crash_theorem.specs.Parted.{Part, ahead, middle, behind}
use Rattle.crash_theorem.proofs.PickLaws.{part_pick, all_pick, all_map, all_has, all_join}
use Rattle.crash_theorem.specs.Turn.{lowest, Low}
use Rattle.crash_theorem.proofs.TurnLaws.{lowest_low}
use Rattle.crash_theorem.specs.Store.{Store, Rows}
use Rattle.crash_theorem.specs.Change.{Change, goal}
use Rattle.crash_theorem.specs.Events.{EventOf, apply, stray, crash, Phase, own, recovering, stopped, logged, recovery_done, through, St, deciding, decides, decided, start, took, turned, turn, tried, answered, step, run}
use Rattle.crash_theorem.specs.Obligations.{OnTheWay, Settles, Ahead, Behind, Orderly, Obligations}
use Rattle.crash_theorem.specs.Settle.{Settling}
use Rattle.crash_theorem.proofs.SettleLaws.{settle_apply, goal_on, nothing_left, recovery_ends}
use Rattle.crash_theorem.specs.Opening.{Opening}
use Rattle.crash_theorem.proofs.OpeningLaws.{ahead_apply, decide_apply}
use Rattle.crash_theorem.specs.Invariant.{Fresh, Logged, Holds, Inv, opening, settling}

module _ {𝓢 : Store} (𝓒 : Change 𝓢) where
  -- ---- the decision

  self_decides : T (deciding 𝓒 𝓒.decide)
  self_decides = eqb_refl (𝓢.group 𝓒.decide)

  now_decided : {r : 𝓢.Row} (log : Rows 𝓢) → r ≡ 𝓒.decide → decides 𝓒 (r ∷ log) ≡ true
  now_decided {r} log e = go (deciding 𝓒 r) (subst (λ (q : 𝓢.Row). T (deciding 𝓒 q)) (sym e) self_decides)
    where
      go : (b : Bool) → T b → b || decides 𝓒 log ≡ true
      go true t = refl
      go false t = absurd t

  still_decided : (r : 𝓢.Row) (log : Rows 𝓢) → decides 𝓒 log ≡ true → decides 𝓒 (r ∷ log) ≡ decides 𝓒 log
  still_decided r log e = go (deciding 𝓒 r)
    where
      go : (b : Bool) → b || decides 𝓒 log ≡ decides 𝓒 log
      go true = sym e
      go false = refl

  undecided : (log : Rows 𝓢) → All (λ r. 𝓢.group r < 𝓢.group 𝓒.decide) log → decides 𝓒 log ≡ false
  undecided [] h = refl
  undecided (r ∷ log) h = go (deciding 𝓒 r) (eqb→eq (𝓢.group r) (𝓢.group 𝓒.decide)) (undecided log h.1)
    where
      go : (b : Bool) → (T b → 𝓢.group r ≡ 𝓢.group 𝓒.decide) → decides 𝓒 log ≡ false → b || decides 𝓒 log ≡ false
      go true e k = absurd (omega (arith, e tt, h.0))
      go false e k = k

  -- the test by group is the deciding row itself
  pub decision_of : (log : Rows 𝓢) → All (Logged 𝓒) log → T (decides 𝓒 log) ↔ Has log 𝓒.decide
  decision_of log h = (there log h, back log)
    where
      there : (log : Rows 𝓢) → All (Logged 𝓒) log → T (decides 𝓒 log) → Has log 𝓒.decide
      there [] h t = absurd t
      there (r ∷ log) h t = go (deciding 𝓒 r) (eqb→eq (𝓢.group r) (𝓢.group 𝓒.decide)) (there log h.1) t
        where
          go : (b : Bool) → (T b → 𝓢.group r ≡ 𝓢.group 𝓒.decide) → (T (decides 𝓒 log) → Has log 𝓒.decide)
              → T (b || decides 𝓒 log) → Has (r ∷ log) 𝓒.decide
          go true e k t = inl (⊎_elim (λ d. d) (λ n. absurd (n (e tt))) h.0)
          go false e k t = inr (k t)

      back : (log : Rows 𝓢) → Has log 𝓒.decide → T (decides 𝓒 log)
      back [] a = absurd a
      back (r ∷ log) (inl e) = rw (now_decided log e) tt
      back (r ∷ log) (inr a) = go (deciding 𝓒 r) (back log a)
        where
          go : (b : Bool) → T (decides 𝓒 log) → T (b || decides 𝓒 log)
          go true t = tt
          go false t = t

  sooner_logged : (log : Rows 𝓢) → All (λ r. 𝓢.group r < 𝓢.group 𝓒.decide) log → All (Logged 𝓒) log
  sooner_logged log l = all_map (λ r. 𝓢.group r < 𝓢.group 𝓒.decide) (Logged 𝓒) (λ r k. inr (omega arith)) log l

  -- ---- what the invariant says of a state

  pub logged_of : (s : St 𝓒) → Inv 𝓒 s → All (Logged 𝓒) s.applied
  logged_of s (opening f l h) = sooner_logged s.applied l
  logged_of s (settling l h) = l

  pub inside_of : (s : St 𝓒) → Inv 𝓒 s → OnTheWay 𝓒 (decided 𝓒 s) s.img
  inside_of s (opening f l h) = rw (undecided s.applied l) h.inside
  inside_of s (settling l h) = h.inside

  pub ended_of : (s : St 𝓒) → Inv 𝓒 s → T s.done → s.img ≡ goal 𝓒 (decided 𝓒 s)
  ended_of s (opening f l h) t = never s.phase s.done f t
    where
      never : (ph : Phase) (b : Bool) → Fresh 𝓒 ph b → T b → s.img ≡ goal 𝓒 (decided 𝓒 s)
      never own true f t = absurd f
      never own false f t = absurd t
      never recovering b f t = absurd f
      never stopped b f t = absurd f
  ended_of s (settling l h) t = h.ended t

  module _ (𝓞 : Orderly 𝓒) where
    pub goal_ok : (d : Bool) → 𝓢.Ok (goal 𝓒 d)
    goal_ok false = 𝓞.before_ok
    goal_ok true = 𝓞.after_ok

    pub fits_of : (s : St 𝓒) → Inv 𝓒 s → All 𝓢.Fits s.waiting
    fits_of s (opening f l h) = rw h.shape (all_join 𝓢.Fits h.left (𝓒.decide ∷ 𝓒.behind)
        (all_map (Ahead 𝓒) 𝓢.Fits (λ r a. a.opens.fits) h.left h.rows)
        (𝓞.decide_row_lem.fits, all_map (Behind 𝓒) 𝓢.Fits (λ r b. b.settles.fits) 𝓒.behind 𝓞.behind_rows))
    fits_of s (settling l h) = all_map (Settles 𝓒 (decided 𝓒 s)) 𝓢.Fits (λ r k. k.fits) s.waiting h.rows

    -- once the call's own rows have all been applied, the image is the one after
    pub whole : {log : Rows 𝓢} {done : Bool} {X : 𝓢.Img} (ph : Phase) (W : Rows 𝓢) → T (through ph W) → Holds 𝓒 ph log done X W
        → (decides 𝓒 log ≡ true) × (X ≡ 𝓒.after)
    whole {log} own [] t (opening f l h) = absurd (full h.left h.shape)
      where
        full : (A : Rows 𝓢) → [] ≡ A ++ 𝓒.decide ∷ 𝓒.behind → ⊥
        full [] e = subst (λ (W : Rows 𝓢). Empty W) e tt
        full (r ∷ A) e = subst (λ (W : Rows 𝓢). Empty W) e tt
    whole {log} own [] t (settling l h) =
        (h.kept.0, nothing_left 𝓒 goal_ok (decides 𝓒 log) h.inside.ok h.kept.1 ∙ ap (goal 𝓒) h.kept.0)
    whole {log} own (r ∷ W) t h = absurd t
    whole {log} recovering W t h = absurd t
    whole {log} stopped W t h = absurd t

    -- ---- each event keeps it

    settle_step : (ph : Phase) (done : Bool) (log : Rows 𝓢) {r : 𝓢.Row} {X : 𝓢.Img} {W W' : Rows 𝓢} → All (Logged 𝓒) log
        → Settling 𝓒 ph (decides 𝓒 log) done X W → Pick r W W' → Low 𝓢.group r W'
        → Holds 𝓒 ph (logged ph r log) (recovery_done ph done W') (𝓢.put X r) W'
    settle_step own done log {r} l s p low = settling
        (inr (let h = (all_pick (λ q. 𝓢.group 𝓒.decide < 𝓢.group q) p s.kept.2).0 in omega arith), l)
        (rw (still_decided r log s.kept.0) (settle_apply 𝓒 goal_ok own (decides 𝓒 log) done s p low))
    settle_step recovering done log l s p low = settling l (settle_apply 𝓒 goal_ok recovering (decides 𝓒 log) done s p low)
    settle_step stopped done log l s p low = settling l (settle_apply 𝓒 goal_ok stopped (decides 𝓒 log) done s p low)

    open_step : (ph : Phase) (done : Bool) (log : Rows 𝓢) {r : 𝓢.Row} {X : 𝓢.Img} {W W' : Rows 𝓢} → Fresh 𝓒 ph done
        → All (λ r. 𝓢.group r < 𝓢.group 𝓒.decide) log → (s : Opening 𝓒 X W) → Low 𝓢.group r W'
        → Part r 𝓒.decide s.left 𝓒.behind W' → Holds 𝓒 ph (logged ph r log) (recovery_done ph done W') (𝓢.put X r) W'
    open_step own false log f l s low (ahead p e) =
        opening tt ((all_pick (Ahead 𝓒) p s.rows).0.sooner, l) (rw e (ahead_apply 𝓒 s p (rw e at low)))
    open_step own false log {r} {X} {W' = W'} f l s low (middle e w) =
        let k : Low 𝓢.group 𝓒.decide (s.left ++ 𝓒.behind) = rw (e, w) at low in
        settling (inl e, sooner_logged log l)
        (rw (now_decided log e, e, w) (decide_apply 𝓒 𝓞 s k))
    open_step own false log {r} {W' = W'} f l s low (behind p a) =
        let h = (all_pick (Behind 𝓒) p 𝓞.behind_rows).0.waits in
        let k = all_has (λ q. 𝓢.group r ≤ 𝓢.group q) W' low 𝓒.decide a in
        absurd (omega arith)
    open_step own true log f l s low q = absurd f
    open_step recovering done log f l s low q = absurd f
    open_step stopped done log f l s low q = absurd f

    pub took_inv : (s : St 𝓒) (p : Picked s.waiting) → Low 𝓢.group p.0 p.1 → Inv 𝓒 s → Inv 𝓒 (took 𝓒 s p.0 p.1)
    took_inv s p low (settling l h) = settle_step s.phase s.done s.applied l h p.2 low
    took_inv s p low (opening f l h) =
        open_step s.phase s.done s.applied f l h low (part_pick h.left 𝓒.behind (rw h.shape at p.2))

    pub turn_inv : (s : St 𝓒) (o : Option (Picked s.waiting)) → Inv 𝓒 s → Inv 𝓒 (turn 𝓒 s o)
    turn_inv s none h = h
    turn_inv s (some p) h = go (lowest 𝓢.group (𝓢.group p.0) p.1) (lowest_low 𝓢.group p.0 p.1)
      where
        go : (b : Bool) → (T b → Low 𝓢.group p.0 p.1) → Inv 𝓒 (turned 𝓒 b s p.0 p.1)
        go true f = took_inv s p (f tt) h
        go false f = h

    pub stray_inv : (s : St 𝓒) (r : 𝓢.Row) → Inv 𝓒 s → Inv 𝓒 (tried 𝓒 (𝓢.accepts s.img r) s r)
    stray_inv s r h = go (𝓢.accepts s.img r) (𝓢.refuses s.img r)
      where
        go : (b : Bool) → (T (not b) → 𝓢.put s.img r ≡ s.img) → Inv 𝓒 (tried 𝓒 b s r)
        go true f = h
        go false f = rw (f tt) h

    refused_inv : (s : St 𝓒) → Inv 𝓒 s → Inv 𝓒 (answered 𝓒 s none)
    refused_inv s h = settling (logged_of s h) (record { inside = inside_of s h; rows = tt; kept = tt; ended = ended_of s h })

    pub start_inv : Inv 𝓒 (start 𝓒)
    start_inv = opening tt tt (record {
      left = 𝓒.ahead;
      shape = refl;
      inside = goal_on 𝓒 goal_ok false;
      rows = 𝓞.ahead_rows;
      written = λ k n a. inr a;
      opened = inr 𝓞.sets_journal;
    })

  module _ (𝓞 : Obligations 𝓒) where
    recover_inv : (s : St 𝓒) → Inv 𝓒 s → (b : 𝓢.Lent) → T (𝓢.enough b s.img) → Inv 𝓒 (answered 𝓒 s (𝓒.recover b s.img))
    recover_inv s h b t =
        let i = inside_of s h in
        let w = 𝓞.recovers (decided 𝓒 s) s.img i b t in
        rw w.answer (settling (logged_of s h) (record {
          inside = i;
          kept = w.cover;
          rows = w.settle;
          ended = recovery_ends 𝓒 (goal_ok 𝓞.orderly) recovering (decided 𝓒 s) s.done w.rows i.ok w.cover (ended_of s h);
        }))

    pub step_inv : (s : St 𝓒) (e : EventOf 𝓢) → Inv 𝓒 s → Inv 𝓒 (step 𝓒 s e)
    step_inv s (apply i) h = turn_inv 𝓞.orderly s (pick i s.waiting) h
    step_inv s (stray r) h = stray_inv 𝓞.orderly s r h
    step_inv s (crash b) h = go (𝓢.enough b s.img) (λ t. t) (λ t. t)
      where
        go : (e : Bool) → (T e → T (𝓢.enough b s.img)) → (T (not e) → T (not (𝓢.enough b s.img)))
            → Inv 𝓒 (answered 𝓒 s (𝓒.recover b s.img))
        go true f g = recover_inv s h b (f tt)
        go false f g = rw (𝓞.refuses s.img (inside_of s h).ok b (g tt)) (refused_inv 𝓞.orderly s h)

    pub run_inv : (s : St 𝓒) (es : List (EventOf 𝓢)) → Inv 𝓒 s → Inv 𝓒 (run 𝓒 s es)
    run_inv s [] h = h
    run_inv s (e ∷ es) h = run_inv (step 𝓒 s e) es (step_inv s e h)
