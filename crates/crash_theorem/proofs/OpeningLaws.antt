-- Before the decision: rows ahead of the deciding one are applied, and then that one. Assumes nothing.
use Rattle.std.specs.Prelude.{◌≡◌, refl, ◌⊎◌, ◌≢◌, true, false, [], ◌∷◌, ◌++◌, ◌≤◌, ◌<◌}
use Rattle.std.proofs.Common.{sym, ◌∙◌, subst, inl, inr, ⊎_elim, arith}
use Rattle.crash_theorem.specs.Pick.{All, Pick}
use Rattle.crash_theorem.proofs.PickLaws.{all_pick, any_pick, all_left, all_map, all_zip, all_any, any_split}
use Rattle.crash_theorem.specs.Turn.{Low}
use Rattle.crash_theorem.specs.Store.{Store, Rows, Covers}
use Rattle.crash_theorem.proofs.StoreLaws.{after_put}
use Rattle.crash_theorem.specs.Change.{Change}
use Rattle.crash_theorem.specs.Events.{own}
use Rattle.crash_theorem.specs.Obligations.{OnTheWay, Sets, WritesFinal, Opens, Settles, Clears, Mends, Cover, Ahead, Behind, Orderly}
use Rattle.crash_theorem.specs.Settle.{Mixed, Fixed, Settling}
use Rattle.crash_theorem.specs.Opening.{Opening}

module _ {𝓢 : Store} (𝓒 : Change 𝓢) where
  -- ---- a row up to the deciding one

  opens_final : {r : 𝓢.Row} → Opens 𝓒 r → 𝓢.key r ≢ 𝓒.journal → 𝓢.body r ≡ 𝓢.get 𝓒.after (𝓢.key r)
  opens_final {r} h n = ⊎_elim (λ (k : Sets 𝓒 r). absurd (n k.at_journal)) (λ (k : WritesFinal 𝓒 r). k.final) h.kind

  -- it sets the journal record, or leaves it set
  opens_mark : {r : 𝓢.Row} {X : 𝓢.Img} → 𝓢.Ok X → Opens 𝓒 r → (WritesFinal 𝓒 r → 𝓢.get X 𝓒.journal ≡ 𝓒.marked)
      → 𝓢.get (𝓢.put X r) 𝓒.journal ≡ 𝓒.marked
  opens_mark {r} {X} o h was = ⊎_elim
      (λ (k : Sets 𝓒 r). subst (λ (j : 𝓢.Key). 𝓢.get (𝓢.put X r) j ≡ 𝓒.marked) k.at_journal (𝓢.get_same o h.fits ∙ k.mark))
      (λ (k : WritesFinal 𝓒 r). 𝓢.get_other o h.fits 𝓒.journal (λ e. k.elsewhere (sym e)) ∙ was k) h.kind

  -- a row ahead of the deciding one is applied: it sets the journal record, or that is set already
  pub ahead_apply : {r : 𝓢.Row} {X : 𝓢.Img} {A W : Rows 𝓢} (s : Opening 𝓒 X W) → Pick r s.left A
      → Low 𝓢.group r (A ++ 𝓒.decide ∷ 𝓒.behind) → Opening 𝓒 (𝓢.put X r) (A ++ 𝓒.decide ∷ 𝓒.behind)
  ahead_apply {r} {X} {A} s p low = record {
    left = A;
    shape = refl;
    inside = record {
      ok = 𝓢.put_ok o f;
      mixed = after_put 𝓢 o f (Mixed 𝓒) (λ n. inr (opens_final a.opens n)) (λ j _. i.mixed j);
      fixed = after_put 𝓢 o f (Fixed 𝓒 false) (λ n. ⊎_elim (λ e. absurd (n e)) inl a.undone) (λ j _. i.fixed j);
      journal = inl (opens_mark o a.opens was, a.other_decides);
    };
    rows = rs.1;
    written = after_put 𝓢 o f (λ k b. k ≢ 𝓒.journal → Covers 𝓢 𝓒.ahead k → (b ≡ 𝓢.get 𝓒.after k) ⊎ Covers 𝓢 A k)
        (λ n c. inl (opens_final a.opens n))
        (λ j m n c. ⊎_elim inl (λ q. ⊎_elim (λ e. absurd (m (sym e))) inr (any_pick (λ q. 𝓢.key q ≡ j) p q)) (s.written j n c));
    opened = inl (opens_mark o a.opens was);
  }
    where
      i : OnTheWay 𝓒 false X
      i = s.inside

      o : 𝓢.Ok X
      o = i.ok

      rs : Ahead 𝓒 r × All (Ahead 𝓒) A
      rs = all_pick (Ahead 𝓒) p s.rows

      a : Ahead 𝓒 r
      a = rs.0

      f : 𝓢.Fits r
      f = a.opens.fits

      -- a later row of another record finds no journal row waiting
      none_waits : WritesFinal 𝓒 r → Covers 𝓢 A 𝓒.journal → ⊥
      none_waits h c =
          let (q, hq, e) = all_any (λ q. Ahead 𝓒 q × (𝓢.group r ≤ 𝓢.group q)) (λ q. 𝓢.key q ≡ 𝓒.journal) A
          (all_zip (Ahead 𝓒) (λ q. 𝓢.group r ≤ 𝓢.group q) A rs.1
          (all_left (λ q. 𝓢.group r ≤ 𝓢.group q) A (𝓒.decide ∷ 𝓒.behind) low)) c in
          ⊎_elim (λ (m : Sets 𝓒 q). omega (arith, m.early, hq.1, h.later)) (λ (m : WritesFinal 𝓒 q). m.elsewhere e) hq.0.opens.kind

      was : WritesFinal 𝓒 r → 𝓢.get X 𝓒.journal ≡ 𝓒.marked
      was h = ⊎_elim (λ e. e) (⊎_elim
          (λ c. absurd (⊎_elim h.elsewhere (none_waits h) (any_pick (λ q. 𝓢.key q ≡ 𝓒.journal) p c)))
          (λ e. absurd (a.other_decides e))) s.opened

  none_ahead : (A : Rows 𝓢) → All (Ahead 𝓒) A → Low 𝓢.group 𝓒.decide A → A ≡ []
  none_ahead [] h l = refl
  none_ahead (q ∷ A) h l = absurd (omega (arith, h.0.sooner, l.0))

  -- the deciding row is applied: none ahead waits, and the rows that are left lead to the image after
  pub decide_apply : Orderly 𝓒 → {X : 𝓢.Img} {W : Rows 𝓢} (s : Opening 𝓒 X W) → Low 𝓢.group 𝓒.decide (s.left ++ 𝓒.behind)
      → Settling 𝓒 own true false (𝓢.put X 𝓒.decide) (s.left ++ 𝓒.behind)
  decide_apply 𝓞 {X} s low = rw empty record {
    inside = record {
      ok = 𝓢.put_ok o f;
      mixed = after_put 𝓢 o f (Mixed 𝓒) (λ n. inr (opens_final 𝓞.decide_row_lem n)) (λ j _. i.mixed j);
      fixed = λ k n. ⊎_elim inr (λ a. inl (unsure k n a)) (cover k);
      journal = inl (opens_mark o 𝓞.decide_row_lem was, tt);
    };
    rows = settle;
    kept = (refl, cover, all_map (Behind 𝓒) (λ r. 𝓢.group 𝓒.decide < 𝓢.group r) (λ r h. h.waits) 𝓒.behind 𝓞.behind_rows);
    ended = λ t. absurd t;
  }
    where
      i : OnTheWay 𝓒 false X
      i = s.inside

      o : 𝓢.Ok X
      o = i.ok

      f : 𝓢.Fits 𝓒.decide
      f = 𝓞.decide_row_lem.fits

      empty : s.left ≡ []
      empty = none_ahead s.left s.rows (all_left (λ q. 𝓢.group 𝓒.decide ≤ 𝓢.group q) s.left 𝓒.behind low)

      gone : (k : 𝓢.Key) → Covers 𝓢 s.left k → ⊥
      gone k a = subst (λ (A : Rows 𝓢). Covers 𝓢 A k) empty a

      settle : All (Settles 𝓒 true) 𝓒.behind
      settle = all_map (Behind 𝓒) (Settles 𝓒 true) (λ r h. h.settles) 𝓒.behind 𝓞.behind_rows

      -- every record that some row writes is as after or is written by a row that still waits
      others : (j : 𝓢.Key) → j ≢ 𝓢.key 𝓒.decide → Dec (j ≡ 𝓒.journal) → (𝓢.get X j ≡ 𝓢.get 𝓒.after j) ⊎ Covers 𝓢 𝓒.behind j
      others j n (yes e) = inr (rw e 𝓞.clears_journal)
      others j n (no m) = ⊎_elim
          (λ b. inl (⊎_elim (λ e. e ∙ b) (λ e. e) (i.mixed j m)))
          (λ c. ⊎_elim (λ a. ⊎_elim inl (λ q. absurd (gone j q)) (s.written j m a)) (⊎_elim (λ e. absurd (n (sym e))) inr)
          (any_split (λ q. 𝓢.key q ≡ j) 𝓒.ahead (𝓒.decide ∷ 𝓒.behind) c))
          (𝓞.complete j m)

      cover : Cover 𝓒 true (𝓢.put X 𝓒.decide) 𝓒.behind
      cover = after_put 𝓢 o f (λ k b. (b ≡ 𝓢.get 𝓒.after k) ⊎ Covers 𝓢 𝓒.behind k)
          (⊎_elim (λ (h : Sets 𝓒 𝓒.decide). inr (rw h.at_journal 𝓞.clears_journal)) (λ (h : WritesFinal 𝓒 𝓒.decide). inl h.final)
          𝓞.decide_row_lem.kind)
          (λ j n. others j n (𝓢.same j 𝓒.journal))

      unsure : (k : 𝓢.Key) → k ≢ 𝓒.journal → Covers 𝓢 𝓒.behind k → 𝓒.pending true k
      unsure k n a =
          let (q, h, e) = all_any (Settles 𝓒 true) (λ q. 𝓢.key q ≡ k) 𝓒.behind settle a in
          ⊎_elim (λ (m : Clears 𝓒 q). absurd (n (sym e ∙ m.at_journal))) (λ (m : Mends 𝓒 true q). rw e at m.unsure) h.kind

      was : WritesFinal 𝓒 𝓒.decide → 𝓢.get X 𝓒.journal ≡ 𝓒.marked
      was h = ⊎_elim (λ e. e) (⊎_elim (λ a. absurd (gone 𝓒.journal a)) (λ e. absurd (h.elsewhere e))) s.opened
