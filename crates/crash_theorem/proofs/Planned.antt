-- From rows of distinct records, and a recovery that fits them, to what the crash theorem asks. Assumes nothing.
use Rattle.std.specs.Prelude.{◌≡◌, refl, ◌⊎◌, ◌≢◌, Bool, true, false, not, List, [], ◌∷◌, ◌++◌, ◌<◌, T}
use Rattle.std.proofs.Common.{sym, ap, ◌∙◌, inl, inr, ⊎_elim, arith}
use Rattle.std.proofs.Math.Option.{Option, none, some}
use Rattle.crash_theorem.specs.Pick.{All, Any, Has}
use Rattle.crash_theorem.proofs.PickLaws.{all_map, any_map, all_zip, all_has, has_all, all_right, all_join, any_left, any_right, any_split}
use Rattle.crash_theorem.specs.Store.{Store, Rows, Covers, Spares, Distinct, put_all}
use Rattle.crash_theorem.proofs.StoreLaws.{covers?, spares_not, all_ok, all_other, rows_same}
use Rattle.crash_theorem.specs.Change.{Change, goal}
use Rattle.crash_theorem.specs.Obligations.{OnTheWay, MayMark, Opens, Settles, Cover, Ahead, Behind, Recovery, Orderly, Obligations}
use Rattle.crash_theorem.proofs.SettleLaws.{settled}
use Rattle.crash_theorem.proofs.InvariantLaws.{goal_ok}
use Rattle.crash_theorem.specs.Plan.{Decider, by_row, by_journal_lem, created_of, ahead_of, decide_of, writes_of, ByRow, Plan, writes, decide_row, after_of, behind_of, PendingOf, side_of, OpenSide, CoverSide, if_enough, lending, change, WellFormed, Recovers}

module _ {R : Type 0} where
  ahead_of_lem : (P : R → Type 0) (set : R) (D : Decider R) → (ByRow D → P set) → (ByRow D → All P (created_of D)) → All P (ahead_of set D)
  ahead_of_lem P set (by_row created r) f g = (f tt, g tt)
  ahead_of_lem P set by_journal_lem f g = tt

  decide_of_lem : (P : R → Type 0) (set : R) (D : Decider R) (rest : List R) → P set
      → ((r : R) → Has (writes_of D rest) r → ByRow D → decide_of set D ≡ r → P r)
      → P (decide_of set D)
  decide_of_lem P set (by_row created r) rest p f = f r (any_right (λ x. x ≡ r) created (r ∷ rest) (inl refl)) tt refl
  decide_of_lem P set by_journal_lem rest p f = p

  created_writes : (D : Decider R) (rest : List R) (r : R) → Has (created_of D) r → Has (writes_of D rest) r
  created_writes (by_row created d) rest r a = any_left (λ x. x ≡ r) created (d ∷ rest) a
  created_writes by_journal_lem rest r a = absurd a

  rest_writes : (D : Decider R) (rest : List R) (r : R) → Has rest r → Has (writes_of D rest) r
  rest_writes (by_row created d) rest r a = any_right (λ x. x ≡ r) created (d ∷ rest) (inr a)
  rest_writes by_journal_lem rest r a = a

  -- a row that writes is ahead, or decides, or comes after
  writes_plan : (P : R → Type 0) (set clear : R) (D : Decider R) (rest : List R) → Any P (writes_of D rest)
      → Any P (ahead_of set D ++ decide_of set D ∷ (rest ++ clear ∷ []))
  writes_plan P set clear (by_row created r) rest a = inr (⊎_elim
      (λ c. any_left P created (r ∷ (rest ++ clear ∷ [])) c)
      (λ c. any_right P created (r ∷ (rest ++ clear ∷ [])) (⊎_elim inl (λ h. inr (any_left P rest (clear ∷ []) h)) c))
      (any_split P created (r ∷ rest) a))
  writes_plan P set clear by_journal_lem rest a = inr (any_left P rest (clear ∷ []) a)

module _ {𝓢 : Store} (p : Plan 𝓢) (recover : 𝓢.Img → Option (Rows 𝓢)) (𝓦 : WellFormed 𝓢 p) where
  abbrev 𝓒 : Change 𝓢
  𝓒 = change 𝓢 p recover

  has_covers : (rs : Rows 𝓢) (r : 𝓢.Row) → Has rs r → Covers 𝓢 rs (𝓢.key r)
  has_covers rs r a = any_map (λ q. q ≡ r) (λ q. 𝓢.key q ≡ 𝓢.key r) (λ q e. ap 𝓢.key e) rs a

  written : (r : 𝓢.Row) → Has (writes 𝓢 p) r → 𝓢.body r ≡ 𝓢.get (after_of 𝓢 p) (𝓢.key r)
  written r a = sym (rows_same 𝓢 (writes 𝓢 p) 𝓦.ok 𝓦.fits 𝓦.distinct r a)

  elsewhere_of : (r : 𝓢.Row) → Has (writes 𝓢 p) r → 𝓢.key r ≢ 𝓢.key p.set
  elsewhere_of r a = all_has (λ q. 𝓢.key q ≢ 𝓢.key p.set) (writes 𝓢 p) 𝓦.apart r a

  fits_write : (r : 𝓢.Row) → Has (writes 𝓢 p) r → 𝓢.Fits r
  fits_write r a = all_has 𝓢.Fits (writes 𝓢 p) 𝓦.fits r a

  decide_elsewhere : ByRow p.decider → 𝓢.key (decide_row 𝓢 p) ≢ 𝓢.key p.set
  decide_elsewhere b = go p.decider 𝓦.apart b
    where
      go : (D : Decider 𝓢.Row) → Spares 𝓢 (writes_of D p.rest) (𝓢.key p.set) → ByRow D
          → 𝓢.key (decide_of p.set D) ≢ 𝓢.key p.set
      go (by_row created r) h b = (all_right (λ q. 𝓢.key q ≢ 𝓢.key p.set) created (r ∷ p.rest) h).0
      go by_journal_lem h b = absurd b

  journal_kept : 𝓢.get (after_of 𝓢 p) (𝓢.key p.set) ≡ 𝓢.get p.before (𝓢.key p.set)
  journal_kept = all_other 𝓢 (writes 𝓢 p) 𝓦.ok 𝓦.fits (𝓢.key p.set) 𝓦.apart

  set_opens : Opens 𝓒 p.set
  set_opens = record { fits = 𝓦.set_fits; kind = inl (record { at_journal = refl; mark = refl; early = omega arith }) }

  write_opens : (r : 𝓢.Row) → Has (writes 𝓢 p) r → 𝓢.group p.set < 𝓢.group r → Opens 𝓒 r
  write_opens r a l = record { fits = fits_write r a; kind = inr (record { elsewhere = elsewhere_of r a; final = written r a; later = l }) }

  rest_settles : (r : 𝓢.Row) → Has p.rest r → 𝓢.group r < 𝓢.group p.clear → Settles 𝓒 true r
  rest_settles r a l =
      let w = rest_writes p.decider p.rest r a in
      record {
        fits = fits_write r w;
        aims = written r w;
        kind = inr (record { elsewhere = elsewhere_of r w; earlier = l; unsure = has_covers p.rest r a });
      }

  -- the clearing row leads either way
  pub clear_settles : (d : Bool) → Settles 𝓒 d p.clear
  clear_settles d = record { fits = 𝓦.clear_fits; aims = aims d; kind = inl (record { at_journal = 𝓦.clears; late = omega arith }) }
    where
      aims : (d : Bool) → 𝓢.body p.clear ≡ 𝓢.get (goal 𝓒 d) (𝓢.key p.clear)
      aims false = rw 𝓦.clears 𝓦.restores
      aims true = rw 𝓦.clears (𝓦.restores ∙ sym journal_kept)

  behind_settle : All (Behind 𝓒) (behind_of 𝓢 p)
  behind_settle = all_join (Behind 𝓒) p.rest (p.clear ∷ [])
      (all_map (λ r. Has p.rest r × _) (Behind 𝓒) (λ r h. record { settles = rest_settles r h.0 h.1.1; waits = h.1.0 }) p.rest
      (all_zip _ _ p.rest (has_all p.rest) 𝓦.rest_groups))
      (record { settles = clear_settles true; waits = 𝓦.clear_group_lem }, tt)

  clears_end : Covers 𝓢 (behind_of 𝓢 p) (𝓢.key p.set)
  clears_end = any_right (λ r. 𝓢.key r ≡ 𝓢.key p.set) p.rest (p.clear ∷ []) (inl 𝓦.clears)

  sets_first : (D : Decider 𝓢.Row) → Covers 𝓢 (ahead_of p.set D) (𝓢.key p.set) ⊎ (𝓢.key (decide_of p.set D) ≡ 𝓢.key p.set)
  sets_first (by_row created r) = inl (inl refl)
  sets_first by_journal_lem = inr refl

  pub orderly : Orderly 𝓒
  orderly = record {
    before_ok = 𝓦.ok;
    after_ok = all_ok 𝓢 (writes 𝓢 p) 𝓦.ok 𝓦.fits;
    ahead_rows = ahead_of_lem (Ahead 𝓒) p.set p.decider
        (λ b. record { opens = set_opens; sooner = 𝓦.decide_group b; undone = inl refl; other_decides = decide_elsewhere b })
        (λ b. all_map (λ r. Has (created_of p.decider) r × _) (Ahead 𝓒)
        (λ r h. record {
          opens = write_opens r (created_writes p.decider p.rest r h.0) h.1.0;
          sooner = h.1.1;
          undone = inr (has_covers (created_of p.decider) r h.0);
          other_decides = decide_elsewhere b;
        })
        (created_of p.decider) (all_zip _ _ (created_of p.decider) (has_all (created_of p.decider)) 𝓦.created_groups));
    decide_row_lem = decide_of_lem (Opens 𝓒) p.set p.decider p.rest set_opens (λ r a b e. write_opens r a (rw e at (𝓦.decide_group b)));
    behind_rows = behind_settle;
    sets_journal = sets_first p.decider;
    clears_journal = clears_end;
    complete = λ k n. ⊎_elim (λ c. inr (writes_plan (λ r. 𝓢.key r ≡ k) p.set p.clear p.decider p.rest c))
        (λ s. inl (sym (all_other 𝓢 (writes 𝓢 p) 𝓦.ok 𝓦.fits k s))) (covers? 𝓢 (writes 𝓢 p) k);
  }

  -- ---- records on the way

  -- once decided, the deciding row's record is as that row writes it
  pub decided_record : {X : 𝓢.Img} → ByRow p.decider → OnTheWay 𝓒 true X → 𝓢.get X (𝓢.key (decide_row 𝓢 p)) ≡ 𝓢.body (decide_row 𝓢 p)
  decided_record b i =
      ⊎_elim (λ c. absurd (once p.decider 𝓦.distinct b c)) (λ e. e ∙ sym (written (decide_row 𝓢 p) (among p.decider b)))
      (i.fixed (𝓢.key (decide_row 𝓢 p)) (decide_elsewhere b))
    where
      among : (D : Decider 𝓢.Row) → ByRow D → Has (writes_of D p.rest) (decide_of p.set D)
      among (by_row created r) b = any_right (λ x. x ≡ r) created (r ∷ p.rest) (inl refl)
      among by_journal_lem b = absurd b

      tail : (xs ys : Rows 𝓢) → Distinct 𝓢 (xs ++ ys) → Distinct 𝓢 ys
      tail [] ys d = d
      tail (x ∷ xs) ys d = tail xs ys d.1

      once : (D : Decider 𝓢.Row) → Distinct 𝓢 (writes_of D p.rest) → ByRow D → Covers 𝓢 p.rest (𝓢.key (decide_of p.set D)) → ⊥
      once (by_row created r) d b c = spares_not 𝓢 p.rest (𝓢.key r) (tail created (r ∷ p.rest) d).0 c
      once by_journal_lem d b c = absurd b

  -- while undecided, a record that the call does not create is as before
  pub undecided_record : {X : 𝓢.Img} → OnTheWay 𝓒 false X → (k : 𝓢.Key) → k ≢ 𝓢.key p.set → Spares 𝓢 (created_of p.decider) k
      → 𝓢.get X k ≡ 𝓢.get p.before k
  undecided_record i k n s = ⊎_elim (λ c. absurd (spares_not 𝓢 (created_of p.decider) k s c)) (λ e. e) (i.fixed k n)

  -- ---- recovery

  -- rows that write every pending record and the journal's leave out nothing
  cover_of : (d : Bool) {X : 𝓢.Img} (us : Rows 𝓢) → OnTheWay 𝓒 d X → ((k : 𝓢.Key) → PendingOf 𝓢 p d k → Covers 𝓢 us k)
      → Covers 𝓢 us (𝓢.key p.set) → Cover 𝓒 d X us
  cover_of d {X} us i f j k = go (𝓢.same k (𝓢.key p.set))
    where
      go : Dec (k ≡ 𝓢.key p.set) → (𝓢.get X k ≡ 𝓢.get (goal 𝓒 d) k) ⊎ Covers 𝓢 us k
      go (yes e) = inr (rw e j)
      go (no n) = ⊎_elim (λ q. inr (f k q)) inl (i.fixed k n)

  -- the plan's own rows behind the decision lead to the image after
  pub behind_all : All (Settles 𝓒 true) (behind_of 𝓢 p)
  behind_all = all_map (Behind 𝓒) (Settles 𝓒 true) (λ r h. h.settles) (behind_of 𝓢 p) behind_settle

  -- the records pending on either side, and the journal's, are among those that the rows on that side write
  side_pending : (d : Bool) (k : 𝓢.Key) → PendingOf 𝓢 p d k → Covers 𝓢 (side_of 𝓢 p d) k
  side_pending false k c = go p.decider c
    where
      go : (D : Decider 𝓢.Row) → Covers 𝓢 (created_of D) k → Covers 𝓢 (ahead_of p.set D) k
      go (by_row created r) c = inr c
      go by_journal_lem c = absurd c
  side_pending true k c = any_left (λ r. 𝓢.key r ≡ k) p.rest (p.clear ∷ []) c

  side_journal : (d : Bool) → OpenSide 𝓢 p d → Covers 𝓢 (side_of 𝓢 p d) (𝓢.key p.set)
  side_journal false b = go p.decider b
    where
      go : (D : Decider 𝓢.Row) → ByRow D → Covers 𝓢 (ahead_of p.set D) (𝓢.key p.set)
      go (by_row created r) b = inl refl
      go by_journal_lem b = absurd b
  side_journal true b = clears_end

  module _ (d : Bool) (us : Rows 𝓢) (us-all : CoverSide 𝓢 p d us) {X : 𝓢.Img} (b : OpenSide 𝓢 p d) (i : OnTheWay 𝓒 d X) where
    side_cover : Cover 𝓒 d X us
    side_cover = cover_of d us i (λ k c. us-all k (side_pending d k c)) (us-all (𝓢.key p.set) (side_journal d b))

    -- such rows reach the goal, if each leads there: an operation needs this where recovery tests its own outcome
    pub reached : All (Settles 𝓒 d) us → put_all 𝓢 X us ≡ goal 𝓒 d
    reached h = settled 𝓒 (goal_ok 𝓒 orderly) d us i.ok h side_cover

  module _ (ρ : Recovers 𝓢 p recover) where
    by_row_of : (D : Decider 𝓢.Row) → 𝓢.key (decide_of p.set D) ≢ 𝓢.key p.set → ByRow D
    by_row_of (by_row created r) n = tt
    by_row_of by_journal_lem n = n refl

    at_goal : (d : Bool) → recover (goal 𝓒 d) ≡ some []
    at_goal false = ρ.at_before
    at_goal true = ρ.at_after

    -- buffers that are long enough change nothing about the answer
    long_enough : (X : 𝓢.Img) (b : 𝓢.Lent) → T (𝓢.enough b X) → lending 𝓢 recover b X ≡ recover X
    long_enough X b t = go (𝓢.enough b X) t
      where
        go : (e : Bool) → T e → if_enough 𝓢 e (recover X) ≡ recover X
        go true t = refl
        go false t = absurd t

    too_short : (X : 𝓢.Img) (b : 𝓢.Lent) → T (not (𝓢.enough b X)) → lending 𝓢 recover b X ≡ none
    too_short X b t = go (𝓢.enough b X) t
      where
        go : (e : Bool) → T (not e) → if_enough 𝓢 e (recover X) ≡ none
        go true t = absurd t
        go false t = refl

    module _ (X : 𝓢.Img) (b : 𝓢.Lent) (t : T (𝓢.enough b X)) where
      when_set : (d : Bool) → OnTheWay 𝓒 d X → 𝓢.get X (𝓢.key p.set) ≡ 𝓢.body p.set → MayMark 𝓒 d → Recovery 𝓒 d X b
      when_set true i m k =
          let c = side_cover true ρ.redo ρ.redo_all tt i in
          record { rows = ρ.redo; answer = long_enough X b t ∙ ρ.on X i m; settle = ρ.redoes; cover = c }
      when_set false i m k =
          let r = by_row_of p.decider k in
          let c = side_cover false ρ.undo ρ.undo_all r i in
          record { rows = ρ.undo; answer = long_enough X b t ∙ ρ.back X r i m; settle = ρ.undoes; cover = c }

      when_clear : (d : Bool) → X ≡ goal 𝓒 d → Recovery 𝓒 d X b
      when_clear d e = record { rows = []; answer = long_enough X b t ∙ ap recover e ∙ at_goal d; settle = tt; cover = λ k. inl (rw e) }

    -- all that the crash theorem asks
    pub journaled : Obligations 𝓒
    journaled = record {
      orderly = orderly;
      recovers = λ d X i b t. ⊎_elim (λ m. when_set X b t d i m.0 m.1) (when_clear X b t d) i.journal;
      refuses = λ X o. too_short X;
    }
