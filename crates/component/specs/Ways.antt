-- The ways in which a component leaves a walk, each with what is known there. Assumes nothing.
use Rattle.std.specs.Prelude.{◌≡◌, Bool, true, false, ◌||◌, ℕ, ◌+◌, ◌≤◌, ◌<◌, eqb, length}
use Rattle.layout.specs.Limits.{symlink_limit, path_limit}
use Rattle.layout.specs.Errno.{EPERM, EACCES, EINVAL, ELOOP, ENAMETOOLONG, ENOENT, ENOTDIR}
use Rattle.layout.specs.View.{View, is_directory, is_symlink}
use Rattle.paths.specs.Path.{component, behind, bare, is_dot, is_dot_dot}
use Rattle.paths.specs.Portable.{is_portable}
use Rattle.paths.specs.Lookup.{lookup}
use Rattle.component.specs.declared.state.Final.{Final}
use Rattle.component.specs.Step.{Position, Step, existing, missing, refused_by, names, go_to, splice}

-- the numbers that a component is refused by
abbrev pub component_number : ℕ → Bool
component_number n = eqb n EPERM || eqb n ENOENT || eqb n EACCES || eqb n ENOTDIR || eqb n EINVAL || eqb n ENAMETOOLONG || eqb n ELOOP

-- How the component that stands first at w leaves the walk by x.
pub data Way (v : View) (last : Final) (w : Position) (x : Step) : Type 0 where
  refuses : (n : ℕ) → component_number n ≡ true → x ≡ refused_by n w → Way v last w x
  moves : (d : ℕ) → bare (behind w.rest) ≡ false → x ≡ go_to w (behind w.rest) d → Way v last w x
  follows : (i : ℕ) → is_symlink v i ≡ true → bare (behind w.rest) ≡ false → w.links < symlink_limit
      → length (v.text (v.field i)) + length (behind w.rest) ≤ path_limit
      → x ≡ splice w (v.text (v.field i)) (behind w.rest) → Way v last w x
  exists : (slash : Bool) → is_directory v w.directory ≡ true
      → lookup v w.directory (component w.rest) < v.entries
      → (slash ≡ true → is_directory v (v.target (lookup v w.directory (component w.rest))) ≡ true)
      → x ≡ names w (existing w.directory (lookup v w.directory (component w.rest)) (v.target (lookup v w.directory (component w.rest))) slash)
      → Way v last w x
  lacks : (slash : Bool) → last.present ≡ false → (last.portable ≡ true → is_portable (component w.rest) ≡ true) → is_directory v w.directory ≡ true
      → v.entries ≤ lookup v w.directory (component w.rest)
      → length (component w.rest) ≤ v.room
      → (is_dot (component w.rest) || is_dot_dot (component w.rest)) ≡ false
      → x ≡ names w (missing w.directory (component w.rest) slash)
      → Way v last w x
