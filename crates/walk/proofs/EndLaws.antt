-- What is known where a walk has ended holds of the end of every walk. Assumes nothing.
use Rattle.std.specs.Prelude.{◌≡◌, refl, Bool, true, false, ◌||◌, not, List, ℕ, ◌<◌, eqb, length, get_or}
use Rattle.std.proofs.Common.{sym, subst, ◌∙◌, ap}
use Rattle.seq.specs.Bytes.{no_zero}
use Rattle.seq.specs.Truth.{and_both, or_left, or_right, not_both}
use Rattle.seq.proofs.SearchLaws.{all_at, all_of}
use Rattle.layout.specs.View.{View, is_directory, is_symlink}
use Rattle.names.specs.Name.{plain_name, is_dots}
use Rattle.names.specs.NameTests.{name_good}
use Rattle.paths.specs.declared.request.Credentials.{Credentials}
use Rattle.paths.specs.Path.{component, behind, bare, is_dot, is_dot_dot}
use Rattle.paths.specs.Lookup.{lookup}
use Rattle.paths.proofs.LookupLaws.{lookup_held, lookup_none}
use Rattle.paths.proofs.Plain.{component_plain, behind_plain, joined_plain, component_slash, component_some}
use Rattle.component.specs.declared.state.Final.{Final}
use Rattle.component.specs.Step.{Position, nothing, End, Step, goes, ends, walk_step}
use Rattle.component.specs.Ways.{component_number, Way, refuses, moves, follows, exists, lacks}
use Rattle.component.proofs.WayLaws.{step_way}
use Rattle.walk.specs.Walk.{halt_number, walk}
use Rattle.walk.proofs.WalkLaws.{by_walk}
use Rattle.walk.specs.Budget.{Leads, ending, going}
use Rattle.walk.proofs.Bound.{after_is}
use Rattle.walk.proofs.BoundStart.{start_leads}
use Rattle.walk.specs.Ends.{Existing, walk_number, Facts}

-- a refusal, by a number of either list
refusal_facts : (v : View) (last : Final) (n steps : ℕ) (p : ℕ → Bool) → p 0 ≡ false → p n ≡ true → walk_number n ≡ true
    → Facts v last (record { number = n; steps = steps; found = nothing })
refusal_facts v last n steps p zero-not here listed =
    record { known = tt; numbered = λ z. not_both (p n) here (ap p z ∙ zero-not); listed = listed }

-- a component without a zero byte, and not of dots, is a good name
good_component : (p : List ℕ) → no_zero p ≡ true → (is_dot (component p) || is_dot_dot (component p)) ≡ false → name_good (component p) ≡ true
unfolding name_good plain_name is_dots no_zero
good_component p plain dots =
    and_both _ _ (all_of _ (length (component p)) (λ k l.
    and_both (not (eqb (get_or (component p) k 0) 0)) _ (all_at _ (length (component p)) (component_plain p plain) k l) (rw (component_slash p k l)))) (rw dots)

module _ (v : View) (last : Final) (texts : (i : ℕ) → is_symlink v i ≡ true → no_zero (v.text (v.field i)) ≡ true) where
  -- what one component hands on: a rest without a zero byte, or an end of which the facts hold
  abbrev Hands : Step → Type 0
  Hands (goes u) = no_zero u.rest ≡ true
  Hands (ends e) = Facts v last e

  existing_facts : (d : ℕ) (name : List ℕ) (slash : Bool) → is_directory v d ≡ true → lookup v d name < v.entries
      → (slash ≡ true → is_directory v (v.target (lookup v d name)) ≡ true) → Existing v d (lookup v d name) (v.target (lookup v d name)) slash
  existing_facts d name slash place below slashed =
      let held = lookup_held v d name (lookup v d name) refl below in
      record {
        directory = place;
        below = below;
        used = held.used;
        parent = held.parent;
        found = ap (λ (n : List ℕ). lookup v d n) held.named;
        target = refl;
        slashed = slashed;
      }

  hands_way : (w : Position) (x : Step) → bare w.rest ≡ false → no_zero w.rest ≡ true → Way v last w x → Hands x
  hands_way w x more plain (refuses n listed e) =
      subst Hands (sym e) (refusal_facts v last n _ component_number refl listed (or_right (eqb n 0 || halt_number n) (component_number n) listed))
  hands_way w x more plain (moves d left e) = subst Hands (sym e) (behind_plain w.rest plain)
  hands_way w x more plain (follows i link left few short e) =
      subst Hands (sym e) (joined_plain (v.text (v.field i)) (behind w.rest) (texts i link) (behind_plain w.rest plain))
  hands_way w x more plain (exists slash place below slashed e) =
      subst Hands (sym e) (record { known = existing_facts w.directory (component w.rest) slash place below slashed; numbered = refl; listed = refl })
  hands_way w x more plain (lacks slash may portable place none short dots e) =
      subst Hands (sym e) (record {
        known = record {
          may = may;
          portable = portable;
          directory = place;
          lacks = lookup_none v w.directory (component w.rest) none;
          some = component_some w.rest more;
          short = short;
          good = good_component w.rest plain dots;
        };
        numbered = refl;
        listed = refl;
      })

  module _ (who : Credentials) where
    hands_step : (w : Position) (x : Step) → walk_step v who last w ≡ x → bare w.rest ≡ false → no_zero w.rest ≡ true → Hands x
    hands_step w x e more plain = subst Hands e (hands_way w _ more plain (step_way v who last w))

    led_facts : {w : Position} {e : End} → Leads v who last w e → bare w.rest ≡ false → no_zero w.rest ≡ true → Facts v last e
    led_facts {w} {e} (ending s) more plain = hands_step w (ends e) s more plain
    led_facts {w} (going {u = u} s l) more plain =
        led_facts l (after_is v who last w (goes u) s).more (hands_step w (goes u) s more plain)

    -- the facts hold of the end of every walk
    pub walk_facts : (current start : ℕ) (path : List ℕ) → no_zero path ≡ true → Facts v last (walk v who last current start path)
    walk_facts current start path plain =
        by_walk v who last (Facts v last) path (λ n listed. refusal_facts v last n 0 halt_number refl listed (or_left (eqb n 0 || halt_number n) (component_number n) (or_right (eqb n 0) (halt_number n) listed)))
        (λ short more directory waived. led_facts (start_leads v who last directory waived path short more) more plain) current start
