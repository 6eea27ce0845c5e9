-- Good entries, texts, handles and bodies and the records of their facts, both directions. Assumes nothing.
use Rattle.std.specs.Prelude.{◌≡◌, refl, Bool, true, false, not, cond, List, ℕ, ◌≤◌, eqb}
use Rattle.std.proofs.Math.Path.{sym}
use Rattle.std.proofs.Common.{◌∙◌, arith}
use Rattle.std.proofs.lemmas.Bool.{false≢true}
use Rattle.std.proofs.Math.Decide.{ℕ_discrete, dec_le}
use borrow.Author.Tests.{eqb-true, eqb-false, leb-true, not-true, not-false, eq-eqb, ne_eqb, le-leb}
use Rattle.seq.specs.Bytes.{zeros}
use Rattle.seq.specs.Truth.{implies_at, implies_of, and_left, and_right, and_both}
use Rattle.layout.specs.declared.Shape.{Shape}
use Rattle.layout.specs.View.{View, view_of, entry_at, handle_at, is_directory, text_used}
use Rattle.names.specs.Name.{plain_name, is_dots}
use Rattle.names.specs.NameTests.{name_good}
use Rattle.consistency.specs.Entry.{entry_formed, entry_spelled, entry_linked, used_good, entry_good}
use Rattle.consistency.specs.Others.{text_good, open_good, by_state, handle_good}
use Rattle.consistency.proofs.StateTests.{state_closed, state_open, state_none}
use Rattle.consistency.specs.Sound.{text_linked}
use Rattle.consistency.specs.RecordFacts.{Linked, Used, Entry, Text, Open, Handle}

-- a choice by a Bool, taken apart and put together
choice_is : (b x y : Bool) → cond b x y ≡ true → (b ≡ true → x ≡ true) × (b ≡ false → y ≡ true)
choice_is true x y e = ((λ z. e), (λ z. absurd (false≢true (sym z))))
choice_is false x y e = ((λ z. absurd (false≢true z)), (λ z. e))

is_choice : (b x y : Bool) → (b ≡ true → x ≡ true) → (b ≡ false → y ≡ true) → cond b x y ≡ true
is_choice true x y f g = f refl
is_choice false x y f g = g refl

module _ (v : View) (j : ℕ) where
  linked_is : entry_linked v j ≡ true → Linked v j
  unfolding entry_linked
  linked_is e =
      let c = choice_is (is_directory v (v.target j)) (eqb (v.field (v.target j)) (v.parent j)) (eqb (v.system (v.target j)) (v.system (v.parent j)))
      (search (and_left, and_right)) in
      record {
        parent = search (and_left, and_right);
        target = search (and_left, and_right);
        below_root = eqb-false _ _ (not-true (eqb (v.target j) 0) (search (and_left, and_right)));
        up = λ d. eqb-true _ _ (c.0 d);
        system = λ d. eqb-true _ _ (c.1 d);
      }

  is_linked : Linked v j → entry_linked v j ≡ true
  unfolding entry_linked
  is_linked f =
      let c = is_choice (is_directory v (v.target j)) (eqb (v.field (v.target j)) (v.parent j)) (eqb (v.system (v.target j)) (v.system (v.parent j)))
      (λ d. eq-eqb _ _ (f.up d)) (λ d. eq-eqb _ _ (f.system d)) in
      rw (f.parent, f.target, ne_eqb _ _ f.below_root) c

module _ (h : Shape) (s : List ℕ) (j : ℕ) where
  used_is : used_good h s j ≡ true → Used h s j
  unfolding used_good entry_formed entry_spelled name_good
  used_is e = record {
    short = leb-true _ _ (search (and_left, and_right));
    padded = search (and_left, and_right);
    filled = search (and_left, and_right);
    name = and_both (plain_name ((view_of h s).name j)) (not (is_dots ((view_of h s).name j))) (search (and_left, and_right)) (search (and_left, and_right));
    linked = linked_is (view_of h s) j (search (and_left, and_right));
  }

  is_used_lem : Used h s j → used_good h s j ≡ true
  unfolding used_good entry_formed entry_spelled name_good
  is_used_lem f =
      let plain = and_left (plain_name ((view_of h s).name j)) _ f.name in
      let own = and_right (plain_name ((view_of h s).name j)) _ f.name in
      rw (le-leb _ _ f.short, f.padded, f.filled, plain, own, is_linked (view_of h s) j f.linked)

  pub entry_is : entry_good h s j ≡ true → Entry h s j
  unfolding entry_good
  entry_is e =
      let c = choice_is (eqb ((view_of h s).name_length j) 0) (zeros (entry_at h s j) 0 h.width) (used_good h s j) e in
      record { free = λ u. c.0 (not-false _ u); used = λ u. used_is (c.1 (not-true _ u)) }

  pub is_entry : Entry h s j → entry_good h s j ≡ true
  unfolding entry_good
  is_entry f = is_choice (eqb ((view_of h s).name_length j) 0) _ _ (λ z. f.free (rw z)) (λ z. is_used_lem (f.used (rw z)))

module _ (h : Shape) (s : List ℕ) (t : ℕ) where
  pub text_is : text_good h s t ≡ true → Text h s t
  unfolding text_good
  text_is e = record {
    short = leb-true _ _ (search (and_left, and_right));
    filled = search (and_left, and_right);
    bytes = search (and_left, and_right);
    linked = implies_at (text_used (view_of h s) t) (text_linked (view_of h s) t) (search (and_left, and_right));
  }

  pub is_text : Text h s t → text_good h s t ≡ true
  unfolding text_good
  is_text f = rw (le-leb _ _ f.short, f.filled, f.bytes) (implies_of (text_used (view_of h s) t) (text_linked (view_of h s) t) f.linked)

-- the three states, and no fourth
module _ (k : ℕ) (closed opened : Bool) where
  state_within : by_state k closed opened ≡ true → k ≤ 2
  state_within e = go (dec_le k 2)
    where
      go : Dec (k ≤ 2) → k ≤ 2
      go (yes l) = l
      go (no l) = absurd (false≢true (sym (state_none k closed opened (omega arith)) ∙ e))

  state_of_lem : k ≤ 2 → (k ≡ 0 → closed ≡ true) → ((k ≡ 0 → ⊥) → opened ≡ true) → by_state k closed opened ≡ true
  state_of_lem l f g = go (ℕ_discrete k 0)
    where
      go : Dec (k ≡ 0) → by_state k closed opened ≡ true
      go (yes z) = state_closed k closed opened z ∙ f z
      go (no n) = state_open k closed opened n (omega arith) ∙ g n

module _ (h : Shape) (s : List ℕ) (n : ℕ) where
  open_is : open_good h s n ≡ true → Open h s n
  unfolding open_good
  open_is e = record { second = search (and_left, and_right); rest = search (and_left, and_right); used = search (and_left, and_right) }

  is_open : Open h s n → open_good h s n ≡ true
  unfolding open_good
  is_open f = rw (f.second, f.rest, f.used)

  pub handle_is : handle_good h s n ≡ true → Handle h s n
  unfolding handle_good
  handle_is e =
      let within = state_within ((view_of h s).state n) (zeros (handle_at h s n) 0 8) (open_good h s n) e in
      record {
        state = within;
        closed = λ z. sym (state_closed _ _ _ z) ∙ e;
        opened = λ m. open_is (sym (state_open _ _ _ m (omega arith)) ∙ e);
      }

  pub is_handle : Handle h s n → handle_good h s n ≡ true
  unfolding handle_good
  is_handle f = state_of_lem _ _ _ f.state f.closed (λ m. is_open (f.opened m))
