-- The way up from a directory, by the fields of inodes: the tests for it, and what they say as a number of steps (rule 30). Assumes nothing.
use Rattle.std.specs.Prelude.{◌≡◌, ◌≢◌, true, false}
use Rattle.std.proofs.Math.Bool.{or-true}
use Prim.Native.Nat.{ℕ, zero, suc, ◌≤◌}
use Rattle.std.proofs.Math.Decide.{ℕ_discrete}
use Rattle.std.proofs.Common.{le_of_suc-le-suc, arith}
use borrow.Author.Tests.{eqb-true, eq-eqb, ne_eqb}
use Rattle.seq.specs.Truth.{and_right, not_both}
use Rattle.seq.specs.Climb.{up}
use Rattle.seq.proofs.ClimbWays.{short_way}
use Rattle.layout.specs.View.{View, is_directory}
use Rattle.tree.specs.Tree.{reaches}
use Rattle.edits.specs.Kinds.{IsDirectory}
use Rattle.edits.proofs.Tests.{kind_test}

module _ (v : View) where
  -- the test as a number of steps
  pub leads_way : (goal n i : ℕ) → reaches v goal n i ≡ true → (k : ℕ) × (up v.field k i ≡ goal)
  unfolding reaches up
  leads_way goal zero i h = (0, eqb-true _ _ h)
  leads_way goal (suc n) i h =
      go (λ e. leads_way goal n (v.field i) (and_right (is_directory v (v.field i)) _ (rw (ne_eqb _ _ e) at h))) (ℕ_discrete i goal)
    where
      go : ((i ≡ goal → ⊥) → (k : ℕ) × (up v.field k (v.field i) ≡ goal)) → Dec (i ≡ goal) → (k : ℕ) × (up v.field k i ≡ goal)
      go r (yes e) = (0, e)
      go r (no e) = let (k, w) = r e in (suc k, w)

  -- Any number of steps will do where the field of a directory names a directory: a way need not be longer than there are inodes.
  module _ (inside : (i : ℕ) → IsDirectory v i → IsDirectory v (v.field i)) where
    steps_reach : (goal n k i : ℕ) → IsDirectory v i → k ≤ n → up v.field k i ≡ goal → reaches v goal n i ≡ true
    unfolding reaches up
    steps_reach goal zero zero i d l e = eq-eqb _ _ e
    steps_reach goal zero (suc k) i d l e = absurd (omega arith)
    steps_reach goal (suc n) zero i d l e = rw (eq-eqb _ _ e)
    steps_reach goal (suc n) (suc k) i d l e =
        rw (kind_test v (v.field i) 2 (inside i d), steps_reach goal n k (v.field i) (inside i d) (le_of_suc-le-suc l) e, or-true)

    pub way_leads : (goal i k : ℕ) → IsDirectory v i → up v.field k i ≡ goal → reaches v goal v.inodes i ≡ true
    way_leads goal i k d e =
        let (m, l, w) = short_way (IsDirectory v) v.inodes (λ _ x. x.0) v.field inside i goal k d e in
        steps_reach goal v.inodes m i d (omega arith) w

    -- a goal that the test does not reach is on no way up
    pub no_way : (goal i : ℕ) → IsDirectory v i → reaches v goal v.inodes i ≡ false → (k : ℕ) → up v.field k i ≢ goal
    no_way goal i d h k e = not_both _ (way_leads goal i k d e) h
