-- Permission as the code asks for it: the classes one after another. Assumes nothing.
use Rattle.std.specs.Prelude.{◌≡◌, ◌||◌, cond, ℕ, ◌*◌, ◌/◌, ◌%◌, eqb}
use Rattle.std.proofs.Math.Path.{sym}
use Rattle.std.proofs.Common.{◌∙◌}
use Rattle.std.proofs.Math.Bool.{true, false}
use borrow.Author.Tests.{eq-eqb, ne_eqb}
use Rattle.layout.specs.View.{View}
use Rattle.paths.specs.declared.request.Credentials.{Credentials}
use Rattle.paths.specs.Groups.{in_group}
use Rattle.paths.proofs.GroupLaws.{alone}
use Rattle.paths.specs.Permission.{allows}

-- The classes as the code tries them, where mode, owner and group are the inode's as they were read.
module _ (v : View) (who : Credentials) (i bit : ℕ) {mode owner : ℕ} (user : who.user ≡ 0 → ⊥) (m : mode ≡ v.mode i) (o : owner ≡ v.owner i) where
  pub by_owner : who.user ≡ owner → eqb (mode / (64 * bit) % 2) 1 ≡ allows v who i bit
  unfolding allows
  by_owner e = simp (ne_eqb _ _ user, eq-eqb _ _ (e ∙ o), m)

  module _ {group : ℕ} (other : who.user ≡ owner → ⊥) (g : group ≡ v.group i) where
    pub by_group : in_group who group ≡ true → eqb (mode / (8 * bit) % 2) 1 ≡ allows v who i bit
    unfolding allows
    by_group e = let f : in_group who (v.group i) ≡ true = rw (← g) e in simp (ne_eqb _ _ user, ne_eqb _ _ (λ f. other (f ∙ sym o)), f, m)

    pub by_others : in_group who group ≡ false → eqb (mode / bit % 2) 1 ≡ allows v who i bit
    unfolding allows
    by_others e = let f : in_group who (v.group i) ≡ false = rw (← g) e in simp (ne_eqb _ _ user, ne_eqb _ _ (λ f. other (f ∙ sym o)), f, m)

-- rule 43 as it reads without further groups
pub allows_alone : (v : View) (who : Credentials) (i bit : ℕ) → who.count ≡ 0
    → allows v who i bit
    ≡ (eqb who.user 0 || eqb (v.mode i / cond (eqb who.user (v.owner i)) (64 * bit) (cond (eqb who.group (v.group i)) (8 * bit) bit) % 2) 1)
unfolding allows
allows_alone v who i bit none = rw (alone who (v.group i) none)
