-- The list of tests and the decisions within decisions are one definition of a component. Assumes nothing.
use Rattle.std.specs.Prelude.{◌≡◌, refl, Bool, true, false, ltb}
use Rattle.layout.specs.View.{View, is_symlink}
use Rattle.paths.specs.declared.request.Credentials.{Credentials}
use Rattle.paths.specs.Path.{empty, is_dot, is_dot_dot}
use Rattle.component.specs.declared.state.Final.{Final}
use Rattle.component.specs.Step.{Position, name_at, unread, is_final, symlinks_spent, unportable, in_directory, overlong, slot_at, target_at, at_directory, joined_overlong, search_denied, walk_step}
use Rattle.component.specs.Decisions.{decision}

-- a test, whichever way it falls
either : {G : Type 0} (b : Bool) → (b ≡ true → G) → (b ≡ false → G) → G
either true yes-b no-b = yes-b refl
either false yes-b no-b = no-b refl

module _ (v : View) (who : Credentials) (last : Final) (w : Position) where
  abbrev Decides : Type 0
  Decides = walk_step v who last w ≡ decision v who last w

  module _ (place : in_directory v w ≡ true) (may : search_denied v who w ≡ false) (short : overlong v w ≡ false) where
    dot : is_dot (name_at w) ≡ true → Decides
    unfolding walk_step
    dot a = either (is_final w) (λ f. rw (place, may, short, a, f)) (λ f. rw (place, may, short, a, f))

    dot_dot : is_dot (name_at w) ≡ false → is_dot_dot (name_at w) ≡ true → Decides
    unfolding walk_step
    dot_dot a b = either (is_final w) (λ f. rw (place, may, short, a, b, f)) (λ f. rw (place, may, short, a, b, f))

    module _ (a : is_dot (name_at w) ≡ false) (b : is_dot_dot (name_at w) ≡ false) where
      -- a symlink ahead of others
      symlink : is_final w ≡ false → ltb (slot_at v w) v.entries ≡ true → is_symlink v (target_at v w) ≡ true → Decides
      unfolding walk_step
      symlink f g k =
          either (symlinks_spent w) (λ m. rw (place, may, short, a, b, f, g, k, m)) (λ m.
          either (joined_overlong v w) (λ l. rw (place, may, short, a, b, f, g, k, m, l)) (λ l. rw (place, may, short, a, b, f, g, k, m, l)))

      ahead : is_final w ≡ false → Decides
      unfolding walk_step
      ahead f =
          either (ltb (slot_at v w) v.entries) (λ g.
          either (is_symlink v (target_at v w)) (λ k. symlink f g k) (λ k. rw (place, may, short, a, b, f, g, k))) (λ g. rw (place, may, short, a, b, f, g))

      -- the final name
      lacked : unportable last w ≡ false → is_final w ≡ true → ltb (slot_at v w) v.entries ≡ false → Decides
      unfolding walk_step
      lacked p f g =
          either last.present (λ e. rw (place, may, short, a, b, p, f, g, e)) (λ e. rw (place, may, short, a, b, p, f, g, e))

      held : unportable last w ≡ false → is_final w ≡ true → ltb (slot_at v w) v.entries ≡ true → Decides
      unfolding walk_step
      held p f g =
          either (empty (unread w)) (λ z. rw (place, may, short, a, b, p, f, g, z)) (λ z.
          either (at_directory v w) (λ d. rw (place, may, short, a, b, p, f, g, z, d)) (λ d. rw (place, may, short, a, b, p, f, g, z, d)))

      last_name : is_final w ≡ true → Decides
      unfolding walk_step
      last_name f =
          either (unportable last w) (λ p. rw (place, may, short, a, b, p, f)) (λ p.
          either (ltb (slot_at v w) v.entries) (λ g. held p f g) (λ g. lacked p f g))

      looked_up : Decides
      looked_up = either (is_final w) (λ f. last_name f) (λ f. ahead f)

  pub step_decides : Decides
  unfolding walk_step
  step_decides =
      either (in_directory v w) (λ place.
      either (search_denied v who w) (λ d. rw (place, d)) (λ may.
      either (overlong v w) (λ l. rw (place, may, l)) (λ short.
      either (is_dot (name_at w)) (λ a. dot place may short a) (λ a.
      either (is_dot_dot (name_at w)) (λ b. dot_dot place may short a b) (λ b. looked_up place may short a b))))) (λ e. rw e)
