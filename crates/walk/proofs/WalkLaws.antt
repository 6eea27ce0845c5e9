-- The ways in which a walk begins or does not, and what holds of every walk since it holds of each. Assumes nothing.
use Rattle.std.specs.Prelude.{◌≡◌, refl, ◌≢◌, Bool, true, false, List, ℕ, ◌≤◌, ◌<◌, ltb, length}
use Rattle.std.proofs.Common.{ap, ◌∙◌}
use borrow.Author.Tests.{ltb-false, eq-eqb, ne_eqb, lt-ltb, le-ltb}
use Rattle.seq.specs.Truth.{by_test}
use Rattle.layout.specs.Limits.{path_limit, step_limit}
use Rattle.layout.specs.Errno.{EBADF, EBUSY, ENAMETOOLONG, ENOENT}
use Rattle.layout.specs.View.{View}
use Rattle.paths.specs.declared.request.Credentials.{Credentials}
use Rattle.paths.specs.Path.{empty, bare}
use Rattle.component.specs.declared.state.Final.{Final}
use Rattle.component.specs.Step.{End}
use Rattle.walk.specs.Start.{Start, Closed, At}
use Rattle.walk.specs.Walk.{halt_number, halt, start_of, start_at, walk_from, begun, walk}

module _ (v : View) (who : Credentials) (last : Final) where
  -- the ways out ahead of the first component
  module _ (start : Start) (directory : ℕ) (waived : Bool) (path : List ℕ) (at : start ≡ At directory waived) where
    pub begun_bare : bare path ≡ true → begun v who last start path ≡ halt EBUSY
    begun_bare b = ap (λ x. begun v who last x path) at ∙ rw b

    pub begun_walks : bare path ≡ false → begun v who last start path ≡ walk_from v who last step_limit (start_at directory waived path)
    begun_walks b = ap (λ x. begun v who last x path) at ∙ rw b

  module _ (current start : ℕ) (path : List ℕ) where
    pub walk_empty : length path ≡ 0 → walk v who last current start path ≡ halt ENOENT
    unfolding walk
    walk_empty e = rw (eq-eqb _ _ e)

    pub walk_long : length path ≢ 0 → path_limit < length path → walk v who last current start path ≡ halt ENAMETOOLONG
    unfolding walk
    walk_long some long = rw (ne_eqb _ _ some, lt-ltb _ _ long)

    pub walk_begins : length path ≢ 0 → length path ≤ path_limit → walk v who last current start path ≡ begun v who last (start_of v current start path) path
    unfolding walk
    walk_begins some short = rw (ne_eqb _ _ some, le-ltb _ _ short)

  -- what holds of a walk that does not begin, and of one that does, holds of every walk
  module _ (P : End → Type 0) (path : List ℕ) (halts : (n : ℕ) → halt_number n ≡ true → P (halt n))
      (begins : length path ≤ path_limit → bare path ≡ false → (directory : ℕ) (waived : Bool) → P (walk_from v who last step_limit (start_at directory waived path))) where
    by_begun : length path ≤ path_limit → (start : Start) → P (begun v who last start path)
    by_begun short Closed = halts EBADF refl
    by_begun short (At directory waived) =
        by_test P (bare path) _ _ (λ e. halts EBUSY refl) (λ more. begins short more directory waived)

    pub by_walk : (current start : ℕ) → P (walk v who last current start path)
    unfolding walk
    by_walk current start =
        by_test P (empty path) _ _ (λ e. halts ENOENT refl) (λ some.
        by_test P (ltb path_limit (length path)) _ _ (λ e. halts ENAMETOOLONG refl) (λ short.
        by_begun (ltb-false _ _ short) (start_of v current start path)))
