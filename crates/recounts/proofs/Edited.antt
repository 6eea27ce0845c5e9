-- What a slot counts for as two slots are edited, by cases. Assumes nothing.
use Rattle.std.specs.Prelude.{◌≡◌, ◌≢◌, Bool, ℕ}
use Rattle.std.proofs.Common.{sym, ◌∙◌, eq-eqb, ne_eqb}
use Rattle.std.proofs.Math.Decide.{ℕ_discrete}
use Rattle.recounts.specs.declared.Move.{Move}
use Rattle.recounts.specs.Recount.{edited}

module _ (m : Move) (j : ℕ) where
  -- the old slot, the new one, and any other
  pub edited_old : (old new stands : Bool) → j ≡ m.old → edited m j old new stands ≡ old
  edited_old old new stands e = rw (eq-eqb _ _ e)

  pub edited_new : (old new stands : Bool) → j ≢ m.old → j ≡ m.new → edited m j old new stands ≡ new
  edited_new old new stands n e = rw (ne_eqb _ _ n, eq-eqb _ _ e)

  pub edited_else : (old new stands : Bool) → j ≢ m.old → j ≢ m.new → edited m j old new stands ≡ stands
  edited_else old new stands n k = rw (ne_eqb _ _ n, ne_eqb _ _ k)

  -- a test that says what the slot counts for
  pub edited_is : (b old new stands : Bool) → (j ≡ m.old → b ≡ old) → (j ≢ m.old → j ≡ m.new → b ≡ new) → (j ≢ m.old → j ≢ m.new → b ≡ stands)
      → b ≡ edited m j old new stands
  edited_is b old new stands first second other = go (ℕ_discrete j m.old) (ℕ_discrete j m.new)
    where
      go : Dec (j ≡ m.old) → Dec (j ≡ m.new) → b ≡ edited m j old new stands
      go (yes e) q = first e ∙ sym (edited_old old new stands e)
      go (no n) (yes e) = second n e ∙ sym (edited_new old new stands n e)
      go (no n) (no k) = other n k ∙ sym (edited_else old new stands n k)

  -- and two tests that agree on the slot
  pub edited_same : (a b c d e f : Bool) → (j ≡ m.old → a ≡ b) → (j ≢ m.old → j ≡ m.new → c ≡ d) → (j ≢ m.old → j ≢ m.new → e ≡ f)
      → edited m j a c e ≡ edited m j b d f
  edited_same a b c d e f first second other =
      edited_is (edited m j a c e) b d f (λ z. edited_old a c e z ∙ first z) (λ n z. edited_new a c e n z ∙ second n z) (λ n k. edited_else a c e n k ∙ other n k)
