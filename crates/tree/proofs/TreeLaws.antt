-- Laws of the way up the tree: the ways out of a search for a goal, and one step of it. Assumes nothing.
use Rattle.std.specs.Prelude.{◌≡◌, Bool, true, false, ◌&&◌, eqb}
use Rattle.std.proofs.Math.Path.{refl, ap}
use Rattle.std.proofs.Common.{sym, ◌∙◌}
use Rattle.std.proofs.lemmas.Bool.{false≢true}
use Prim.Native.Nat.{ℕ, zero, suc, ◌-◌, ◌<◌}
use native.Mathlib.Omega.{arith}
use borrow.Author.Tests.{eq-eqb, ne_eqb}
use Rattle.layout.specs.View.{View, is_directory}
use Rattle.tree.specs.Tree.{reaches}

-- the ways out of a search up the tree, and one step of it
module _ (v : View) (goal : ℕ) where
  pub reaches_goal : (n i : ℕ) → i ≡ goal → reaches v goal n i ≡ true
  unfolding reaches
  reaches_goal zero i e = eq-eqb _ _ e
  reaches_goal (suc n) i e = rw (eq-eqb _ _ e)

  pub reaches_end : (i : ℕ) → reaches v goal 0 i ≡ eqb i goal
  unfolding reaches
  reaches_end i = refl

  -- n steps are left, and one is taken
  module _ (n i : ℕ) (some : 0 < n) (other : i ≡ goal → ⊥) where
    climb : reaches v goal n i ≡ (is_directory v (v.field i) && reaches v goal (n - 1) (v.field i))
    unfolding reaches
    climb =
        let e : n ≡ suc (n - 1) = omega arith in
        ap (λ m. reaches v goal m i) e ∙ simp (ne_eqb _ _ other)

    pub reaches_out : is_directory v (v.field i) ≡ false → reaches v goal n i ≡ false
    reaches_out e = climb ∙ simp e

    pub reaches_on : is_directory v (v.field i) ≡ true → reaches v goal n i ≡ reaches v goal (n - 1) (v.field i)
    reaches_on e = climb ∙ simp e

-- from anywhere but the goal the way to it goes on through a directory
pub reaches_field : (v : View) (goal n i : ℕ) → 0 < n → (i ≡ goal → ⊥) → reaches v goal n i ≡ true → is_directory v (v.field i) ≡ true
reaches_field v goal n i some other e = go (is_directory v (v.field i)) refl
  where
    go : (b : Bool) → is_directory v (v.field i) ≡ b → is_directory v (v.field i) ≡ true
    go true d = d
    go false d = absurd (false≢true (sym (reaches_out v goal n i some other d) ∙ e))
