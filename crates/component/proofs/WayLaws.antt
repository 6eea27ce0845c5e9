-- Every component leaves the walk in one of the ways: the step's definition read backwards. Assumes nothing.
use Rattle.std.specs.Prelude.{◌≡◌, refl, Bool, true, false, ◌&&◌, ◌||◌, not, List, ℕ, ◌+◌, ◌≤◌, ◌<◌, ltb, leb, length}
use Rattle.std.proofs.Common.{sym, subst, ltb-true, ltb-false, leb-false}
use Rattle.std.proofs.lemmas.Bool.{false≢true, not-true, not-false}
use Rattle.seq.specs.Truth.{by_test}
use Rattle.layout.specs.Limits.{symlink_limit, path_limit}
use Rattle.layout.specs.Errno.{EPERM, EACCES, EINVAL, ELOOP, ENAMETOOLONG, ENOENT, ENOTDIR}
use Rattle.layout.specs.View.{View, is_directory, is_symlink}
use Rattle.paths.specs.declared.request.Credentials.{Credentials}
use Rattle.paths.specs.Path.{component, behind, empty, bare, is_dot, is_dot_dot}
use Rattle.paths.specs.Permission.{search_bit, allows}
use Rattle.paths.specs.Portable.{is_portable}
use Rattle.paths.specs.Lookup.{lookup}
use Rattle.component.specs.declared.state.Final.{Final}
use Rattle.component.specs.Step.{Position, refused_by, walk_step}
use Rattle.component.specs.Decisions.{follow, lack, enter, arrive, hit, seek, barred, named, dots, read, decision}
use Rattle.component.proofs.DecisionLaws.{step_decides}
use Rattle.component.specs.Ways.{component_number, Way, refuses, moves, follows, exists, lacks}

-- a slash behind a name that is not a directory has been refused
slash_asks : (a d : Bool) → (a && not d) ≡ false → a ≡ true → d ≡ true
slash_asks true true e h = refl
slash_asks true false e h = sym e
slash_asks false d e h = absurd (false≢true h)

-- a final name that is not refused is portable where it has to be
portable_asked : (wanted final good : Bool) → (wanted && final && not good) ≡ false → final ≡ true → wanted ≡ true → good ≡ true
portable_asked true true true e f h = refl
portable_asked true true false e f h = sym e
portable_asked true false good e f h = absurd (false≢true f)
portable_asked false final good e f h = absurd (false≢true h)

module _ (v : View) (who : Credentials) (last : Final) (w : Position) where
  abbrev name : List ℕ
  name = component w.rest

  abbrev rest : List ℕ
  rest = behind w.rest

  abbrev slot : ℕ
  slot = lookup v w.directory name

  way_refuse : (n : ℕ) → component_number n ≡ true → Way v last w (refused_by n w)
  way_refuse n listed = refuses n listed refl

  way_follow : (i : ℕ) → is_symlink v i ≡ true → bare rest ≡ false → Way v last w (follow w (v.text (v.field i)) rest)
  way_follow i link more =
      by_test (Way v last w) (leb symlink_limit w.links) _ _ (λ e. way_refuse ELOOP refl) (λ few.
      by_test (Way v last w) (ltb path_limit (length (v.text (v.field i)) + length rest)) _ _ (λ e. way_refuse ENAMETOOLONG refl) (λ short.
      follows i link more (leb-false _ _ few) (ltb-false _ _ short) refl))

  way_enter : (i : ℕ) → bare rest ≡ false → Way v last w (enter v w rest i)
  way_enter i more = by_test (Way v last w) (is_symlink v i) _ _ (λ link. way_follow i link more) (λ e. moves i more refl)

  module _ (place : is_directory v w.directory ≡ true) where
    way_arrive : slot < v.entries → Way v last w (arrive v w rest slot)
    way_arrive below =
        by_test (Way v last w) (not (empty rest) && not (is_directory v (v.target slot))) _ _ (λ e. way_refuse ENOTDIR refl) (λ e.
        exists (not (empty rest)) place below (slash_asks (not (empty rest)) (is_directory v (v.target slot)) e) refl)

    way_hit : slot < v.entries → Way v last w (hit v w rest slot)
    way_hit below =
        by_test (Way v last w) (not (bare rest)) _ _ (λ more. way_enter (v.target slot) (not-true (bare rest) more)) (λ e. way_arrive below)

    module _ (short : length name ≤ v.room) (plain : (is_dot name || is_dot_dot name) ≡ false) where
      way_lack : (last.portable ≡ true → is_portable name ≡ true) → v.entries ≤ slot → Way v last w (lack last w name rest)
      way_lack portable none =
          by_test (Way v last w) last.present _ _ (λ e. way_refuse ENOENT refl) (λ may.
          lacks (not (empty rest)) may portable place none short plain refl)

      way_seek : barred last name rest ≡ false → Way v last w (seek v last w name rest)
      way_seek free =
          by_test (Way v last w) (ltb slot v.entries) _ _ (λ hit-one. way_hit (ltb-true _ _ hit-one)) (λ none.
          by_test (Way v last w) (not (bare rest)) _ _ (λ e. way_refuse ENOENT refl) (λ final.
          way_lack (portable_asked last.portable (bare rest) (is_portable name) free (not-false (bare rest) final)) (ltb-false _ _ none)))

      way_named : Way v last w (named v last w name rest)
      way_named = by_test (Way v last w) (barred last name rest) _ _ (λ e. way_refuse EPERM refl) (λ free. way_seek free)

    way_dots : Way v last w (dots v w name rest)
    way_dots = by_test (Way v last w) (bare rest) _ _ (λ e. way_refuse EINVAL refl) (λ more. moves _ more refl)

    way_read : Way v last w (read v last w name rest)
    way_read =
        by_test (Way v last w) (ltb v.room (length name)) _ _ (λ e. way_refuse ENAMETOOLONG refl) (λ short.
        by_test (Way v last w) (is_dot name || is_dot_dot name) _ _ (λ e. way_dots) (λ plain. way_named (ltb-false _ _ short) plain))

  way_decision : Way v last w (decision v who last w)
  way_decision =
      by_test (Way v last w) (not (is_directory v w.directory)) _ _ (λ e. way_refuse ENOTDIR refl) (λ place.
      by_test (Way v last w) (not (w.waived || allows v who w.directory search_bit)) _ _ (λ e. way_refuse EACCES refl) (λ e.
      way_read (not-false (is_directory v w.directory) place)))

  pub step_way : Way v last w (walk_step v who last w)
  step_way = subst (Way v last w) (sym (step_decides v who last w)) way_decision
