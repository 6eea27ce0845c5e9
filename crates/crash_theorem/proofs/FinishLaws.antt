-- Recovery can always be carried through: after a crash some further events end with its rows all applied. Assumes nothing.
use Rattle.std.specs.Prelude.{◌≡◌, refl, Bool, true, false, ◌||◌, List, [], ◌∷◌, ℕ, zero, suc, ◌≤◌, T, length}
use Rattle.std.proofs.Common.{sym, subst, ⊎_elim, arith}
use Rattle.std.proofs.Math.Option.{Option, some}
use Rattle.crash_theorem.specs.Pick.{null, Pick, here, there, Picked, pick}
use Rattle.crash_theorem.proofs.PickLaws.{empty_null}
use Rattle.crash_theorem.specs.Turn.{lowest}
use Rattle.crash_theorem.proofs.TurnLaws.{has_turn}
use Rattle.crash_theorem.specs.Store.{Store, Rows}
use Rattle.crash_theorem.specs.Change.{Change}
use Rattle.crash_theorem.specs.Events.{apply, crash, St, decided, turned, turn, step, run}
use Rattle.crash_theorem.specs.Obligations.{Obligations}
use Rattle.crash_theorem.specs.Invariant.{Inv}
use Rattle.crash_theorem.proofs.InvariantLaws.{inside_of}
use Rattle.crash_theorem.specs.Finish.{pending, Finishes}

pick_length : {A : Type 0} {r : A} {xs ys : List A} → Pick r xs ys → length xs ≡ suc (length ys)
pick_length here = refl
pick_length (there p) = let e = pick_length p in omega arith

is_true : (b : Bool) → T b → b ≡ true
is_true true t = refl
is_true false t = absurd t

or_right : (a b : Bool) → T b → T (a || b)
or_right true b t = tt
or_right false b t = t

module _ {𝓢 : Store} (𝓒 : Change 𝓢) where
  take_turn : (X : 𝓢.Img) (W log : Rows 𝓢) (done : Bool) (i : ℕ) (p : Picked W) → pick i W ≡ some p
      → T (lowest 𝓢.group (𝓢.group p.0) p.1)
      → Finishes 𝓒 (pending 𝓒 (𝓢.put X p.0) p.1 log (done || null p.1)) → Finishes 𝓒 (pending 𝓒 X W log done)
  take_turn X W log done i p e l h =
      let s = pending 𝓒 X W log done in let its-turn = is_true (lowest 𝓢.group (𝓢.group p.0) p.1) l in (
        apply i ∷ h.0,
        (tt, h.1),
        subst (λ (o : Option (Picked W)). T (run 𝓒 (turn 𝓒 s o) h.0).done) (sym e)
            (subst (λ (b : Bool). T (run 𝓒 (turned 𝓒 b s p.0 p.1) h.0).done) (sym its-turn) h.2),
      )

  -- while any row waits the turn of one has come, and then fewer wait
  finish : (n : ℕ) (X : 𝓢.Img) (W log : Rows 𝓢) (done : Bool) → length W ≤ n → (T (null W) → T done) → Finishes 𝓒 (pending 𝓒 X W log done)
  finish zero X W log done l f = ([], tt, f (none W l))
    where
      none : (W : Rows 𝓢) → length W ≤ 0 → T (null W)
      none [] l = tt
      none (r ∷ W) l = absurd (omega arith)
  finish (suc n) X W log done l f = ⊎_elim (λ e. ([], tt, f (empty_null W e)))
      (λ (i, p, e, t). take_turn X W log done i p e t
      (finish n (𝓢.put X p.0) p.1 log (done || null p.1) (omega (arith, pick_length p.2)) (or_right done (null p.1))))
      (has_turn 𝓢.group W)

  -- where the invariant holds, a crash with buffers that are long enough, and then rows applied in turn, end with the recovery done
  pub finish_of : Obligations 𝓒 → (s : St 𝓒) → Inv 𝓒 s → (b : 𝓢.Lent) → T (𝓢.enough b s.img) → Finishes 𝓒 (step 𝓒 s (crash b))
  finish_of 𝓞 s h b t =
      let w = 𝓞.recovers (decided 𝓒 s) s.img (inside_of 𝓒 s h) b t in
      let done = s.done || null w.rows in
      rw w.answer (finish (length w.rows) s.img w.rows s.applied done (omega arith) (or_right s.done (null w.rows)))
