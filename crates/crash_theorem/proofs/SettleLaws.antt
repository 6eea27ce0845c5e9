-- Rows that lead to a goal, applied in any permitted order, reach it, and every image between is on the way. Assumes nothing.
use Rattle.std.specs.Prelude.{◌≡◌, refl, ◌⊎◌, Bool, true, false, [], ◌∷◌, ◌≤◌, ◌<◌, T}
use Rattle.std.proofs.Common.{sym, ap, ◌∙◌, inl, inr, ⊎_elim, arith}
use Rattle.crash_theorem.specs.Pick.{All, Pick, here}
use Rattle.crash_theorem.proofs.PickLaws.{pick_full, all_pick, any_pick, all_zip, all_any}
use Rattle.crash_theorem.specs.Turn.{Low}
use Rattle.crash_theorem.specs.Store.{Store, Rows, Covers, put_all}
use Rattle.crash_theorem.proofs.StoreLaws.{after_put}
use Rattle.crash_theorem.specs.Change.{Change, goal}
use Rattle.crash_theorem.specs.Events.{Phase, own, recovering, stopped, recovery_done}
use Rattle.crash_theorem.specs.Obligations.{OnTheWay, Settles, Clears, Mends, Cover}
use Rattle.crash_theorem.specs.Settle.{Mixed, Fixed, Kept, Settling}

module _ {𝓢 : Store} (𝓒 : Change 𝓢) where
  pub goal_mixed : (d : Bool) (k : 𝓢.Key) → Mixed 𝓒 k (𝓢.get (goal 𝓒 d) k)
  goal_mixed false k n = inl refl
  goal_mixed true k n = inr refl

  pub cover_put : (d : Bool) {r : 𝓢.Row} {X : 𝓢.Img} {W W' : Rows 𝓢} → 𝓢.Ok X → Settles 𝓒 d r → Pick r W W' → Cover 𝓒 d X W
      → Cover 𝓒 d (𝓢.put X r) W'
  cover_put d {W' = W'} o s p c =
      after_put 𝓢 o s.fits (λ k b. (b ≡ 𝓢.get (goal 𝓒 d) k) ⊎ Covers 𝓢 W' k) (inl s.aims)
      (λ j n. ⊎_elim inl (λ a. ⊎_elim (λ e. absurd (n (sym e))) inr (any_pick (λ q. 𝓢.key q ≡ j) p a)) (c j))

  -- ---- the invariant once the waiting rows all lead to the goal

  covered : (ph : Phase) {d done : Bool} {r : 𝓢.Row} {X : 𝓢.Img} {W W' : Rows 𝓢} → Settling 𝓒 ph d done X W → Pick r W W' → Cover 𝓒 d X W
  covered own s p = s.kept.1
  covered recovering s p = s.kept
  covered stopped s p = absurd (pick_full p s.kept)

  keeps : (ph : Phase) {d done : Bool} {r : 𝓢.Row} {X : 𝓢.Img} (Y : 𝓢.Img) {W W' : Rows 𝓢} → Settling 𝓒 ph d done X W → Pick r W W'
      → Cover 𝓒 d Y W' → Kept 𝓒 ph d Y W'
  keeps own Y s p c = (s.kept.0, c, (all_pick (λ r. 𝓢.group 𝓒.decide < 𝓢.group r) p s.kept.2).1)
  keeps recovering Y s p c = c
  keeps stopped Y s p c = absurd (pick_full p s.kept)

  -- ---- its proof

  module _ (goal_ok : (d : Bool) → 𝓢.Ok (goal 𝓒 d)) where
    pub goal_on : (d : Bool) → OnTheWay 𝓒 d (goal 𝓒 d)
    goal_on d = record { ok = goal_ok d; mixed = goal_mixed d; fixed = λ k n. inr refl; journal = inr refl }

    pub nothing_left : (d : Bool) {X : 𝓢.Img} → 𝓢.Ok X → Cover 𝓒 d X [] → X ≡ goal 𝓒 d
    nothing_left d o c = 𝓢.ext o (goal_ok d) (λ k. ⊎_elim (λ h. h) absurd (c k))

    -- rows that lead to the goal and leave out nothing reach it, in the order of the list
    pub settled : (d : Bool) (W : Rows 𝓢) {X : 𝓢.Img} → 𝓢.Ok X → All (Settles 𝓒 d) W → Cover 𝓒 d X W → put_all 𝓢 X W ≡ goal 𝓒 d
    settled d [] o s c = nothing_left d o c
    settled d (r ∷ W) o s c = settled d W (𝓢.put_ok o s.0.fits) s.1 (cover_put d {W' = W} o s.0 here c)

    -- such a row changes nothing on the goal itself
    on_goal : (d : Bool) {r : 𝓢.Row} {X : 𝓢.Img} → 𝓢.Ok X → Settles 𝓒 d r → X ≡ goal 𝓒 d → 𝓢.put X r ≡ goal 𝓒 d
    on_goal d {r} {X} o s e =
        𝓢.ext (𝓢.put_ok o s.fits) (goal_ok d)
        (after_put 𝓢 o s.fits (λ k b. b ≡ 𝓢.get (goal 𝓒 d) k) s.aims (λ j n. ap (λ (Y : 𝓢.Img). 𝓢.get Y j) e))

    -- the journal record is cleared behind all others, so the image is the goal once it is
    cleared : (d : Bool) {r : 𝓢.Row} {X : 𝓢.Img} (W : Rows 𝓢) → 𝓢.Ok X → Settles 𝓒 d r → Clears 𝓒 r → All (Settles 𝓒 d) W
        → Low 𝓢.group r W → Cover 𝓒 d (𝓢.put X r) W → 𝓢.put X r ≡ goal 𝓒 d
    cleared d {r} {X} W o s c ss low cover = 𝓢.ext (𝓢.put_ok o s.fits) (goal_ok d) (λ k. ⊎_elim (λ h. h) (only k) (cover k))
      where
        written : 𝓢.get (𝓢.put X r) (𝓢.key r) ≡ 𝓢.get (goal 𝓒 d) (𝓢.key r)
        written = 𝓢.get_same o s.fits ∙ s.aims

        only : (k : 𝓢.Key) → Covers 𝓢 W k → 𝓢.get (𝓢.put X r) k ≡ 𝓢.get (goal 𝓒 d) k
        only k a =
            let (q, h, e) = all_any (λ q. Settles 𝓒 d q × (𝓢.group r ≤ 𝓢.group q)) (λ q. 𝓢.key q ≡ k) W
            (all_zip (Settles 𝓒 d) (λ q. 𝓢.group r ≤ 𝓢.group q) W ss low) a in
            ⊎_elim (λ (n : Clears 𝓒 q). rw (sym e ∙ n.at_journal ∙ sym c.at_journal) written)
            (λ (n : Mends 𝓒 d q). absurd (omega (arith, n.earlier, c.late, h.1))) h.0.kind

    -- the image stays on the way
    stays : (d : Bool) {r : 𝓢.Row} {X : 𝓢.Img} (W : Rows 𝓢) → OnTheWay 𝓒 d X → Settles 𝓒 d r → All (Settles 𝓒 d) W → Low 𝓢.group r W
        → Cover 𝓒 d (𝓢.put X r) W → OnTheWay 𝓒 d (𝓢.put X r)
    stays d {r} {X} W i s ss low c = ⊎_elim last other s.kind
      where
        last : Clears 𝓒 r → OnTheWay 𝓒 d (𝓢.put X r)
        last n = rw (cleared d W i.ok s n ss low c) (goal_on d)

        other : Mends 𝓒 d r → OnTheWay 𝓒 d (𝓢.put X r)
        other n = record {
          ok = 𝓢.put_ok i.ok s.fits;
          mixed = after_put 𝓢 i.ok s.fits (Mixed 𝓒) (rw s.aims (goal_mixed d (𝓢.key r))) (λ j _. i.mixed j);
          fixed = after_put 𝓢 i.ok s.fits (Fixed 𝓒 d) (λ _. inr s.aims) (λ j _. i.fixed j);
          journal = ⊎_elim (λ m. inl (𝓢.get_other i.ok s.fits 𝓒.journal (λ e. n.elsewhere (sym e)) ∙ m.0, m.1))
              (λ e. inr (on_goal d i.ok s e)) i.journal;
        }

    pub recovery_ends : (ph : Phase) (d done : Bool) {X : 𝓢.Img} (W : Rows 𝓢) → 𝓢.Ok X → Cover 𝓒 d X W → (T done → X ≡ goal 𝓒 d)
        → T (recovery_done ph done W) → X ≡ goal 𝓒 d
    recovery_ends own d done W o c f t = f t
    recovery_ends stopped d done W o c f t = f t
    recovery_ends recovering d true W o c f t = f tt
    recovery_ends recovering d false [] o c f t = nothing_left d o c
    recovery_ends recovering d false (r ∷ W) o c f t = absurd t

    pub settle_apply : (ph : Phase) (d done : Bool) {r : 𝓢.Row} {X : 𝓢.Img} {W W' : Rows 𝓢} → Settling 𝓒 ph d done X W → Pick r W W'
        → Low 𝓢.group r W' → Settling 𝓒 ph d (recovery_done ph done W') (𝓢.put X r) W'
    settle_apply ph d done {r} {X} {W} {W'} s p low =
        let o = s.inside.ok in
        let rs = all_pick (Settles 𝓒 d) p s.rows in
        let c = cover_put d {W' = W'} o rs.0 p (covered ph s p) in
        record {
          inside = stays d W' s.inside rs.0 rs.1 low c;
          rows = rs.1;
          kept = keeps ph (𝓢.put X r) s p c;
          ended = recovery_ends ph d done W' (𝓢.put_ok o rs.0.fits) c (λ t. on_goal d o rs.0 (s.ended t));
        }
