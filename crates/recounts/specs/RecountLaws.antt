-- A count of the entries as two slots of them are edited, from the count as they stand. Assumes nothing.
use Rattle.std.specs.Prelude.{◌≡◌, refl, ◌≢◌, Bool, true, ◌&&◌, not, [], ◌∷◌, ℕ, ◌+◌, ◌<◌, eqb, ltb}
use Rattle.std.proofs.Common.{sym, ap, arith, ltb-true, eq-eqb, ne_eqb}
use Rattle.std.proofs.lemmas.Bool.{eqb-false, not-true}
use Rattle.seq.specs.Count.{bit}
use Rattle.seq.proofs.CountLaws.{count_edited}
use Rattle.seq.specs.Search.{count}
use Rattle.seq.specs.Truth.{and_left, and_right}
use Rattle.recounts.specs.declared.Move.{Move}
use Rattle.recounts.specs.Recount.{edited}

-- the slots are two of the n
pub record Two (m : Move) (n : ℕ) : Type 0 where
  pub old : m.old < n
  pub new : m.new < n
  pub apart : m.old ≢ m.new

pub two_is : (m : Move) (n : ℕ) → (ltb m.old n && ltb m.new n && not (eqb m.old m.new)) ≡ true → Two m n
two_is m n e = record {
  old = ltb-true _ _ (search (and_left, and_right));
  new = ltb-true _ _ (search (and_left, and_right));
  apart = eqb-false _ _ (not-true (eqb m.old m.new) (search (and_left, and_right)));
}

-- the two slots count as the edit leaves them, in the place of what they counted for
module _ (m : Move) (n : ℕ) (two : Two m n) (p : ℕ → Bool) (old new : Bool) where
  pub recounted : count (λ j. edited m j old new (p j)) n + (bit (p m.old) + bit (p m.new)) ≡ count p n + (bit old + bit new)
  recounted =
      let here : edited m m.old old new (p m.old) ≡ old = simp (eq-eqb m.old m.old refl) in
      let there : edited m m.new old new (p m.new) ≡ new = simp (ne_eqb m.new m.old (λ e. two.apart (sym e)), eq-eqb m.new m.new refl) in
      omega (
        arith,
        count_edited p (λ j. edited m j old new (p j)) n (m.old ∷ m.new ∷ []) (two.old, (two.apart, tt), (two.new, tt, tt)) (λ j l off.
            simp (ne_eqb j m.old off.0, ne_eqb j m.new off.1.0)),
        ap bit here,
        ap bit there,
      )
