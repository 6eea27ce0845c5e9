-- How far a walk goes (rule 61), and that its end owes nothing to the fuel it is defined with. Assumes nothing.
use Rattle.std.specs.Prelude.{◌≡◌, length}
use Rattle.std.proofs.Math.Path.{refl}
use Rattle.std.proofs.Common.{sym, subst, inl, inr, ⊎_elim, le_trans, arith, length-append}
use Rattle.std.proofs.Math.Bool.{false}
use Prim.Native.Nat.{ℕ, zero, suc, ◌+◌, ◌*◌, ◌-◌, ◌/◌, ◌≤◌, ◌<◌}
use Rattle.layout.specs.Limits.{symlink_limit, path_limit, path_components, step_limit}
use Rattle.layout.specs.View.{View}
use Rattle.paths.specs.declared.request.Credentials.{Credentials}
use Rattle.paths.specs.Path.{behind, bare}
use Rattle.paths.proofs.PathLaws.{skip_le, skip_more, behind_le, behind_short, bare_append}
use Rattle.component.specs.declared.state.Final.{Final}
use Rattle.component.specs.Step.{Position, End, Step, goes, ends, walk_step}
use Rattle.component.specs.Ways.{Way, refuses, moves, follows, exists, lacks}
use Rattle.component.proofs.WayLaws.{step_way}
use Rattle.walk.specs.Walk.{walk_from}
use Rattle.walk.specs.Budget.{Goes, After, budget, Ready, Leads, ending, going}

-- rule 61 in a number: it moves with `symlink_limit`, and stands in no other definition or law
pub step_limit_lem : step_limit ≡ 5248
step_limit_lem = refl

-- every step counts, and goes on so if it does
after_way : (v : View) (last : Final) (w : Position) (x : Step) → Way v last w x → After w x
after_way v last w x (refuses n some e) = subst (After w) (sym e) refl
after_way v last w x (moves d more e) = subst (After w) (sym e) (record { more = more; counted = refl; way = inl (refl, refl) })
after_way v last w x (follows i link more few short e) =
    subst (After w) (sym e) (record {
      more = bare_append (v.text (v.field i)) (behind w.rest) more;
      counted = refl;
      way = inr (refl, few, rw length-append short);
    })
after_way v last w x (exists slash place below slashed e) = subst (After w) (sym e) refl
after_way v last w x (lacks slash may portable place none short plain e) = subst (After w) (sym e) refl

pub after_is : (v : View) (who : Credentials) (last : Final) (w : Position) (x : Step) → walk_step v who last w ≡ x → After w x
after_is v who last w x e = subst (After w) e (after_way v last w _ (step_way v who last w))

pub budget_more : (w : Position) → bare w.rest ≡ false → 0 < budget w
unfolding budget
budget_more w more = let l = skip_more w.rest more in omega arith

-- the arithmetic of the budget, over any number of symlinks; of the longest path it is computed how many components it has at most
spend_component : (limit links a b : ℕ) → a + 2 ≤ b → path_components * (limit - links) + (a + 1) / 2 < path_components * (limit - links) + (b + 1) / 2
spend_component limit links a b l = omega arith

spend_symlink : (limit links a b : ℕ) → links < limit → a ≤ path_limit → 0 < b
    → path_components * (limit - (links + 1)) + (a + 1) / 2 < path_components * (limit - links) + (b + 1) / 2
spend_symlink limit links a b few short some = omega arith

pub spend_most : (limit links a : ℕ) → a ≤ path_limit → path_components * (limit - links) + (a + 1) / 2 ≤ path_components * (limit + 1)
spend_most limit links a short = omega arith

falls_behind : (w u : Position) → bare w.rest ≡ false → bare u.rest ≡ false → u.links ≡ w.links → u.rest ≡ behind w.rest
    → budget u < budget w
unfolding budget
falls_behind w u more left e r =
    rw e (spend_component symlink_limit w.links _ _ (rw r (behind_short w.rest more (rw r at left))))

falls_symlink : (w u : Position) → bare w.rest ≡ false → u.links ≡ w.links + 1 → w.links < symlink_limit → length u.rest ≤ path_limit
    → budget u < budget w
unfolding budget
falls_symlink w u more e few short =
    rw e (spend_symlink symlink_limit w.links _ _ few (le_trans (skip_le u.rest) short) (skip_more w.rest more))

pub budget_falls : (w u : Position) → bare w.rest ≡ false → Goes w u → budget u < budget w
budget_falls w u more g =
    ⊎_elim (λ on. falls_behind w u more g.more on.0 on.1) (λ on. falls_symlink w u more on.0 on.1 on.2) g.way

pub ready_steps : (w : Position) → Ready w → w.steps < step_limit
ready_steps w r = let b = budget_more w r.more in omega arith

pub ready_budget : (w : Position) → Ready w → budget w ≤ step_limit
ready_budget w r = omega arith

module _ (v : View) (who : Credentials) (last : Final) where
  pub ready_next : (w u : Position) → Ready w → walk_step v who last w ≡ goes u → Ready u
  ready_next w u r e =
      let g : Goes w u = after_is v who last w (goes u) e in
      let b = budget_falls w u r.more g in
      record {
        more = g.more;
        few = ⊎_elim (λ on. let k = on.0 in omega arith) (λ on. let k = on.0 in let l = on.1 in omega arith) g.way;
        short = ⊎_elim (λ on. rw on.1 (le_trans (behind_le w.rest) r.short)) (λ on. on.2) g.way;
        within = omega arith;
      }

  -- with the budget at hand, the fuel does not run out: what a walk answers is what its steps lead to
  pub leads : (n : ℕ) (w : Position) → bare w.rest ≡ false → budget w ≤ n → Leads v who last w (walk_from v who last n w)
  unfolding walk_from
  leads zero w more enough = let b = budget_more w more in absurd (omega arith)
  leads (suc n) w more enough = go (walk_step v who last w) refl (λ u. leads n u)
    where
      go : (x : Step) → walk_step v who last w ≡ x → ((u : Position) → bare u.rest ≡ false → budget u ≤ n → Leads v who last u (walk_from v who last n u))
          → Leads v who last w (elim x as (λ _. End) [ goes u ↦ walk_from v who last n u | ends e ↦ e ])
      go (goes u) e on =
          let g : Goes w u = after_is v who last w (goes u) e in
          let b = budget_falls w u more g in
          going e (on u g.more (omega arith))
      go (ends f) e on = ending e

  -- and with any fuel from the budget on it is the one end that they lead to
  pub led : (n : ℕ) {w : Position} {e : End} → Leads v who last w e → bare w.rest ≡ false → budget w ≤ n → walk_from v who last n w ≡ e
  unfolding walk_from
  led zero {w} l more enough = let b = budget_more w more in absurd (omega arith)
  led (suc n) (ending s) more enough = rw (s, walk_from)
  led (suc n) {w} (going {u = u} s l) more enough =
      let g : Goes w u = after_is v who last w (goes u) s in
      let b = budget_falls w u more g in
      rw (s, walk_from) (led n l g.more (omega arith))

  -- the components counted: one at least, and no more than the budget
  pub leads_count : {w : Position} {e : End} → Leads v who last w e → w.steps < e.steps
  leads_count {w} {e} (ending s) = let k = after_is v who last w (ends e) s in omega arith
  leads_count {w} (going {u = u} s l) = let k = (after_is v who last w (goes u) s).counted in let m = leads_count l in omega arith

  pub spends : {w : Position} {e : End} → Leads v who last w e → bare w.rest ≡ false → e.steps ≤ w.steps + budget w
  spends {w} {e} (ending s) more = let k = after_is v who last w (ends e) s in let b = budget_more w more in omega arith
  spends {w} (going {u = u} s l) more =
      let g : Goes w u = after_is v who last w (goes u) s in
      let b = budget_falls w u more g in
      let m = spends l g.more in
      omega arith

  -- for a loop over the steps, whose fuel may stay where it is: a step that ends says the end, one that goes on keeps it
  pub walk_ends : (w : Position) (e : End) → Ready w → walk_step v who last w ≡ ends e → walk_from v who last step_limit w ≡ e
  walk_ends w e r s = led step_limit (ending s) r.more (ready_budget w r)

  pub walk_goes : (w u : Position) → Ready w → walk_step v who last w ≡ goes u → walk_from v who last step_limit w ≡ walk_from v who last step_limit u
  walk_goes w u r s =
      let q = ready_next w u r s in
      led step_limit (going s (leads step_limit u q.more (ready_budget u q))) r.more (ready_budget w r)
