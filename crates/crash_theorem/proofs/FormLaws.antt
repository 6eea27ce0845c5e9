-- What a change owes, the same change in rows of another form owes too. Assumes nothing.
use Rattle.std.specs.Prelude.{◌≡◌, refl, ◌≢◌, Bool, true, false, [], ◌∷◌, ◌++◌, ◌≤◌, ◌<◌, length}
use Rattle.std.proofs.Common.{sym, ap, ◌∙◌, subst, inl, inr, ⊎_elim, arith}
use Rattle.crash_theorem.specs.Pick.{All, Any}
use Rattle.crash_theorem.proofs.PickLaws.{all_map}
use Rattle.crash_theorem.specs.Store.{Store, Rows}
use Rattle.crash_theorem.specs.Change.{Change, plan, goal}
use Rattle.crash_theorem.specs.Obligations.{OnTheWay, Opens, Settles, Cover, Ahead, Behind, Orderly, Obligations}
use Rattle.crash_theorem.specs.Order.{Sorted}
use Rattle.crash_theorem.specs.Form.{Form, store_of}
use Rattle.crash_theorem.proofs.FormRows.{Do, in_form, Carries, Follows}

-- ---- rows that do what others say

module _ {𝓢 : Store} (F : Form 𝓢) where
  -- what holds of each row said holds of the row that says it
  pub do_all : (P : 𝓢.Row → Type 0) (Q : F.Row → Type 0) → ((r : F.Row) → F.Takes r → P (F.says r) → Q r) → (rs : Rows (store_of F)) (ws : Rows 𝓢)
      → Do F rs ws
      → All P ws
      → All Q rs
  do_all P Q f [] ws d a = tt
  do_all P Q f (r ∷ rs) [] d a = absurd d
  do_all P Q f (r ∷ rs) (w ∷ ws) d a = (f r d.0.takes (subst P (sym d.0.row) a.0), do_all P Q f rs ws d.1 a.1)

  -- and what holds of some row said, of one that says it
  pub do_any : (P : 𝓢.Row → Type 0) (rs : Rows (store_of F)) (ws : Rows 𝓢) → Do F rs ws → Any P ws → Any (λ r. P (F.says r)) rs
  do_any P [] [] d a = a
  do_any P [] (w ∷ ws) d a = absurd d
  do_any P (r ∷ rs) [] d a = absurd d
  do_any P (r ∷ rs) (w ∷ ws) d (inl p) = inl (subst P (sym d.0.row) p)
  do_any P (r ∷ rs) (w ∷ ws) d (inr a) = inr (do_any P rs ws d.1 a)

  -- they stand in the order of their groups if those said do
  pub do_sorted : (rs : Rows (store_of F)) (ws : Rows 𝓢) → Do F rs ws → Sorted 𝓢 ws → Sorted (store_of F) rs
  do_sorted [] ws d a = tt
  do_sorted (r ∷ rs) [] d a = absurd d
  do_sorted (r ∷ rs) (w ∷ ws) d a = (
    do_all (λ x. 𝓢.group w ≤ 𝓢.group x) (λ q. 𝓢.group (F.says r) ≤ 𝓢.group (F.says q))
        (λ q t l. subst (λ (x : 𝓢.Row). 𝓢.group x ≤ 𝓢.group (F.says q)) (sym d.0.row) l) rs ws d.1 a.0,
    do_sorted rs ws d.1 a.1,
  )

  pub do_join : (qs rs : Rows (store_of F)) (us vs : Rows 𝓢) → Do F qs us → Do F rs vs → Do F (qs ++ rs) (us ++ vs)
  do_join [] rs [] vs d e = e
  do_join [] rs (u ∷ us) vs d e = absurd d
  do_join (q ∷ qs) rs [] vs d e = absurd d
  do_join (q ∷ qs) rs (u ∷ us) vs d e = (d.0, do_join qs rs us vs d.1 e)

  -- rows that do what two lists say, in two parts
  pub do_split : (qs rs : Rows (store_of F)) (us vs : Rows 𝓢) → length qs ≡ length us → Do F (qs ++ rs) (us ++ vs) → Do F qs us × Do F rs vs
  do_split [] rs [] vs e d = (tt, d)
  do_split [] rs (u ∷ us) vs e d = absurd (omega (arith, e))
  do_split (q ∷ qs) rs [] vs e d = absurd (omega (arith, e))
  do_split (q ∷ qs) rs (u ∷ us) vs e d = let p = do_split qs rs us vs (omega (arith, e)) d.1 in ((d.0, p.0), p.1)

  -- a change whose plan does what that of 𝓒 says, with as many rows ahead of the deciding one, is 𝓒 in rows of this form
  pub carries_of : (𝓒 : Change 𝓢) (𝓙 : Change (store_of F)) → in_form F 𝓒 𝓙.ahead 𝓙.decide 𝓙.behind 𝓙.recover ≡ 𝓙
      → length 𝓙.ahead ≡ length 𝓒.ahead → Do F (plan 𝓙) (plan 𝓒) → Carries F 𝓒 𝓙
  carries_of 𝓒 𝓙 same n d =
      let q = do_split 𝓙.ahead (𝓙.decide ∷ 𝓙.behind) 𝓒.ahead (𝓒.decide ∷ 𝓒.behind) n d in
      record { same = same; ahead = q.0; decide = q.1.0; behind = q.1.1 }

-- ---- the change with other rows

module _ {𝓢 : Store} {F : Form 𝓢} {𝓒 : Change 𝓢} {𝓖 : Change (store_of F)} (𝓓 : Carries F 𝓒 𝓖) where
  -- 𝓛 by the images and the journal record of 𝓒
  abbrev 𝓙 : Change (store_of F)
  𝓙 = in_form F 𝓒 𝓖.ahead 𝓖.decide 𝓖.behind 𝓖.recover

  -- what holds of the row said to decide holds of the one that decides
  by_decide : (P : 𝓢.Row → Type 0) → P 𝓒.decide → P (F.says 𝓙.decide)
  by_decide P p = subst P (sym 𝓓.decide.row) p

  way_back : (d : Bool) (X : 𝓢.Img) → OnTheWay 𝓙 d X → OnTheWay 𝓒 d X
  way_back false X i = record {
    ok = i.ok;
    mixed = i.mixed;
    fixed = i.fixed;
    journal = ⊎_elim (λ m. inl (m.0, subst (λ (w : 𝓢.Row). 𝓢.key w ≢ 𝓒.journal) 𝓓.decide.row m.1)) inr i.journal;
  }
  way_back true X i = record { ok = i.ok; mixed = i.mixed; fixed = i.fixed; journal = i.journal }

  opens_row : (r : F.Row) → F.Takes r → Opens 𝓒 (F.says r) → Opens 𝓙 r
  opens_row r t o = record {
    fits = t;
    kind = ⊎_elim (λ s. inl (record { at_journal = s.at_journal; mark = s.mark; early = s.early }))
        (λ w. inr (record { elsewhere = w.elsewhere; final = w.final; later = w.later })) o.kind;
  }

  goal_same : (d : Bool) → goal 𝓒 d ≡ goal 𝓙 d
  goal_same false = refl
  goal_same true = refl

  settles_row : (d : Bool) (r : F.Row) → F.Takes r → Settles 𝓒 d (F.says r) → Settles 𝓙 d r
  settles_row d r t s = record {
    fits = t;
    aims = s.aims ∙ ap (λ (Y : 𝓢.Img). 𝓢.get Y (𝓢.key (F.says r))) (goal_same d);
    kind = ⊎_elim (λ c. inl (record { at_journal = c.at_journal; late = c.late }))
        (λ m. inr (record { elsewhere = m.elsewhere; earlier = m.earlier; unsure = m.unsure })) s.kind;
  }

  cover_rows : (d : Bool) (X : 𝓢.Img) (rs : Rows (store_of F)) (ws : Rows 𝓢) → Do F rs ws → Cover 𝓒 d X ws → Cover 𝓙 d X rs
  cover_rows d X rs ws q c k =
      ⊎_elim (λ e. inl (e ∙ ap (λ (Y : 𝓢.Img). 𝓢.get Y k) (goal_same d))) (λ a. inr (do_any F (λ w. 𝓢.key w ≡ k) rs ws q a)) (c k)

  ahead_row : (r : F.Row) → F.Takes r → Ahead 𝓒 (F.says r) → Ahead 𝓙 r
  ahead_row r t a = record {
    opens = opens_row r t a.opens;
    sooner = by_decide (λ w. 𝓢.group (F.says r) < 𝓢.group w) a.sooner;
    undone = a.undone;
    other_decides = by_decide (λ w. 𝓢.key w ≢ 𝓒.journal) a.other_decides;
  }

  behind_row : (r : F.Row) → F.Takes r → Behind 𝓒 (F.says r) → Behind 𝓙 r
  behind_row r t b = record {
    settles = settles_row true r t b.settles;
    waits = by_decide (λ w. 𝓢.group w < 𝓢.group (F.says r)) b.waits;
  }

  orderly_rows : Orderly 𝓒 → Orderly 𝓙
  orderly_rows 𝓞 = record {
    before_ok = 𝓞.before_ok;
    after_ok = 𝓞.after_ok;
    ahead_rows = do_all F (Ahead 𝓒) (Ahead 𝓙) ahead_row 𝓙.ahead 𝓒.ahead 𝓓.ahead 𝓞.ahead_rows;
    decide_row_lem = opens_row 𝓙.decide 𝓓.decide.takes (by_decide (Opens 𝓒) 𝓞.decide_row_lem);
    behind_rows = do_all F (Behind 𝓒) (Behind 𝓙) behind_row 𝓙.behind 𝓒.behind 𝓓.behind 𝓞.behind_rows;
    sets_journal = ⊎_elim (λ a. inl (do_any F (λ w. 𝓢.key w ≡ 𝓒.journal) 𝓙.ahead 𝓒.ahead 𝓓.ahead a))
        (λ e. inr (by_decide (λ w. 𝓢.key w ≡ 𝓒.journal) e)) 𝓞.sets_journal;
    clears_journal = do_any F (λ w. 𝓢.key w ≡ 𝓒.journal) 𝓙.behind 𝓒.behind 𝓓.behind 𝓞.clears_journal;
    complete = λ k n. ⊎_elim inl (λ c. inr (do_any F (λ w. 𝓢.key w ≡ k) (plan 𝓙) (plan 𝓒)
        (do_join F 𝓙.ahead (𝓙.decide ∷ 𝓙.behind) 𝓒.ahead (𝓒.decide ∷ 𝓒.behind) 𝓓.ahead (𝓓.decide, 𝓓.behind)) c)) (𝓞.complete k n);
  }

  owed_rows : Follows F 𝓒.recover 𝓖.recover → Obligations 𝓒 → Obligations 𝓙
  owed_rows φ 𝓞 = record {
    orderly = orderly_rows 𝓞.orderly;
    recovers = λ d X i b t.
        let r = 𝓞.recovers d X (way_back d X i) (F.lends b) (F.suffices b X t) in
        let fits = all_map (Settles 𝓒 d) 𝓢.Fits (λ w s. s.fits) r.rows r.settle in
        let (rs, answer, does) = φ.answers b X i.ok t r.rows fits r.answer in
        record {
          rows = rs;
          answer = answer;
          settle = do_all F (Settles 𝓒 d) (Settles 𝓙 d) (settles_row d) rs r.rows does r.settle;
          cover = cover_rows d X rs r.rows does r.cover;
        };
    refuses = λ X o b t. φ.refuses b X o t;
  }

  -- ---- the change in this form, 𝓛 itself

  -- an image on the way by these rows is so by those said
  pub way_said : (d : Bool) (X : 𝓢.Img) → OnTheWay 𝓖 d X → OnTheWay 𝓒 d X
  way_said d X i = way_back d X (subst (λ (𝓧 : Change (store_of F)). OnTheWay 𝓧 d X) (sym 𝓓.same) i)

  -- these rows are in order if those said are
  pub orderly_in : Orderly 𝓒 → Orderly 𝓖
  orderly_in 𝓞 = subst (λ (𝓧 : Change (store_of F)). Orderly 𝓧) 𝓓.same (orderly_rows 𝓞)

  -- and with a recovery that follows, all that the crash theorem asks is met if it is by those said
  pub owed_in : Follows F 𝓒.recover 𝓖.recover → Obligations 𝓒 → Obligations 𝓖
  owed_in φ 𝓞 = subst (λ (𝓧 : Change (store_of F)). Obligations 𝓧) 𝓓.same (owed_rows φ 𝓞)
