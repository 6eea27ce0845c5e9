-- The results as rows of a plan: each part where it is asked for, all of them in order, and how many they are. Assumes nothing.
use Rattle.std.specs.Prelude.{◌≡◌, refl, ◌≢◌, Bool, true, false, not, List, [], ◌∷◌, ◌++◌, ℕ, ◌+◌, ◌≤◌, ◌<◌, eqb, length}
use Rattle.std.proofs.Common.{arith, length-append, eq-eqb, ne_eqb}
use Rattle.seq.specs.Truth.{not_both}
use Rattle.layout.specs.declared.Shape.{Shape}
use Rattle.layout.specs.Limits.{absent}
use Rattle.plan.specs.declared.rows.Rows.{Rows}
use Rattle.plan.specs.Form.{row_stored}
use Rattle.plan.specs.Write.{Write, row_from}
use Rattle.plan.specs.Filled.{Filled}
use Rattle.plan.specs.Added.{Added}
use Rattle.plan.proofs.WriteLaws.{filled_one, filled_join}
use Rattle.plan.proofs.AddedLaws.{added_none, added_join}
use Rattle.recounts.specs.declared.Move.{Move}
use Rattle.results.specs.InImage.{InImage}
use Rattle.results.specs.Results.{present, when, old_row, moved_row, holder_row, replaced_row, text_row, always_rows, into_rows, replaced_rows, text_rows, results}

-- a row where it is asked for
module _ (h : Shape) (w : Write) {p : Rows} where
  pub when_one : (b : Bool) {q : Rows} → b ≡ true → Added h p (w ∷ []) q → Added h p (when b w) q
  when_one true e a = a
  when_one false e a = absurd (not_both false e refl)

  pub when_none : (b : Bool) → b ≡ false → Added h p (when b w) p
  when_none true e = absurd (not_both true refl e)
  when_none false e = added_none h p

pub when_le : (b : Bool) (w : Write) → length (when b w) ≤ 1
when_le true w = omega arith
when_le false w = omega arith

parts_le : (a b c : Write) (us vs ws : List Write) → length us ≤ 1 → length vs ≤ 1 → length ws ≤ 1 → length (a ∷ b ∷ c ∷ us ++ vs ++ ws) ≤ 6
parts_le a b c us vs ws i j k = omega (arith, length-append (us ++ vs) ws, length-append us vs)

module _ (h : Shape) (s : List ℕ) (m : Move) where
  -- how many rows each part has
  pub into_le : length (into_rows h s m) ≤ 1
  into_le = when_le (not (eqb m.into m.from)) _

  pub replaced_le : length (replaced_rows h s m) ≤ 1
  replaced_le = when_le (present m.replaced) _

  pub text_le : length (text_rows h s m) ≤ 1
  text_le = when_le (present m.text) _

  pub results_le : length (results h s m) ≤ 6
  unfolding results
  results_le = parts_le (old_row h s m) (moved_row h s m) (holder_row h s m m.from) (into_rows h s m) (replaced_rows h s m) (text_rows h s m) into_le replaced_le text_le

  -- each part put into a plan
  pub always_filled : {p q r t : List ℕ} {i : ℕ} → q ≡ row_stored p i (row_from h (old_row h s m)) → r ≡ row_stored q (i + 1) (row_from h (moved_row h s m))
      → t ≡ row_stored r (i + 2) (row_from h (holder_row h s m m.from)) → Filled h p i (always_rows h s m) t (i + 3)
  always_filled {p} {q} {r} {t} {i} a b c =
      let two : i + 1 + 1 ≡ i + 2 = omega arith in
      let three : i + 2 + 1 ≡ i + 3 = omega arith in
      let second : Filled h q (i + 1) (moved_row h s m ∷ []) r (i + 2) = rw (← two) (filled_one h (moved_row h s m) b) in
      let third : Filled h r (i + 2) (holder_row h s m m.from ∷ []) t (i + 3) = rw (← three) (filled_one h (holder_row h s m m.from) c) in
      filled_join h (filled_one h (old_row h s m) a) (filled_join h second third)

  module _ {p q : Rows} where
    pub into_one : m.into ≢ m.from → Added h p (holder_row h s m m.into ∷ []) q → Added h p (into_rows h s m) q
    into_one n a = when_one h _ (not (eqb m.into m.from)) (rw (ne_eqb _ _ n)) a

    pub replaced_one : m.replaced ≢ absent → Added h p (replaced_row h s m ∷ []) q → Added h p (replaced_rows h s m) q
    replaced_one n a = when_one h _ (present m.replaced) (rw (ne_eqb _ _ n)) a

    pub text_one : m.text ≢ absent → Added h p (text_row h s m ∷ []) q → Added h p (text_rows h s m) q
    text_one n a = when_one h _ (present m.text) (rw (ne_eqb _ _ n)) a

  module _ {p : Rows} where
    pub into_none : m.into ≡ m.from → Added h p (into_rows h s m) p
    into_none e = when_none h _ (not (eqb m.into m.from)) (rw (eq-eqb _ _ e))

    pub replaced_none : m.replaced ≡ absent → Added h p (replaced_rows h s m) p
    replaced_none e = when_none h _ (present m.replaced) (rw (eq-eqb _ _ e))

    pub text_none : m.text ≡ absent → Added h p (text_rows h s m) p
    text_none e = when_none h _ (present m.text) (rw (eq-eqb _ _ e))

  -- all of them
  pub results_added : {p q r t u : Rows} → Added h p (always_rows h s m) q → Added h q (into_rows h s m) r → Added h r (replaced_rows h s m) t
      → Added h t (text_rows h s m) u → Added h p (results h s m) u
  unfolding results
  results_added a b c d = added_join h (added_join h (added_join h a b) c) d

-- the replaced inode is one of the image, where there is one
pub replaced_in : (h : Shape) (m : Move) → InImage h m → (m.replaced ≡ absent → ⊥) → m.replaced < h.inodes
replaced_in h m i n = i.replaced n
