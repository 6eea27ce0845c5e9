-- A working path with a symlink's text spliced in, and what is left of a path to read. Assumes nothing.
use Rattle.std.specs.Prelude.{◌≡◌, true, false, not, cond, List, ◌++◌, ℕ, ◌+◌, ◌-◌, ◌≤◌, ◌<◌, ltb, length}
use Rattle.std.proofs.Common.{ap, ◌∙◌, arith, length-append, eq-eqb, ne_eqb, lt-ltb, le-ltb}
use Rattle.std.proofs.Math.Decide.{dec_lt}
use Rattle.seq.specs.Bytes.{part}
use Rattle.seq.proofs.BytesLaws.{part_length}
use Rattle.layout.specs.Limits.{path_limit}
use Rattle.paths.specs.Path.{empty, bare, absolute}
use Rattle.paths.proofs.PathLaws.{bare_append}
use Rattle.paths.specs.WorkingPath.{working_path}
use Rattle.paths.proofs.WorkingPathLaws.{filled_length, filled_part}
use Rattle.component.specs.declared.state.Leave.TheVariants.{Goes}
use Rattle.component.specs.declared.state.Walk.{Walk}
use Rattle.component.specs.Step.{splice}
use Rattle.component.specs.State.{rest_from, position_of, Turned, ReadUpTo}

-- how much is left to read from index e on
pub rest_length : (w : Walk) (e : ℕ) → ReadUpTo w e → length (rest_from w e) ≡ w.len - e
rest_length w e ahead = part_length w.path e (w.len - e) (omega (arith, ahead.within, ahead.short, ahead.whole))

-- The walk goes on in a spliced path.
pub joins : (w : Walk) (text path : List ℕ) (e len directory : ℕ) → ReadUpTo w e → bare (rest_from w e) ≡ false → len ≡ length text + (w.len - e) → len ≤ path_limit
    → path ≡ working_path (text ++ rest_from w e) → directory ≡ cond (absolute text) 0 w.directory
    → Turned
    (record { walk = record { path = path; len = len; at = 0; directory = directory; links = w.links + 1; steps = w.steps + 1; waived = false }; leave = Goes })
    (splice (position_of w) text (rest_from w e))
joins w text path e len directory ahead more size short p d =
    let l = rest_length w e ahead in
    let n : len ≡ length (text ++ rest_from w e) = size ∙ rw length-append (rw l) in
    let r : part path 0 (len - 0) ≡ text ++ rest_from w e = ap (λ (x : List ℕ). part x 0 (len - 0)) p ∙ filled_part (text ++ rest_from w e) len n in
    record {
      is = rw (r, d);
      left = record { within = omega arith; short = short; whole = ap (λ (x : List ℕ). length x) p ∙ filled_length (text ++ rest_from w e) (omega arith); more = rw r (bare_append text (rest_from w e) more) };
    }

-- whether a slash stands behind the final name
pub slash_behind_lem : (w : Walk) (e : ℕ) → ReadUpTo w e → ltb e w.len ≡ not (empty (rest_from w e))
slash_behind_lem w e ahead = go (rest_length w e ahead) (dec_lt e w.len)
  where
    go : length (rest_from w e) ≡ w.len - e → Dec (e < w.len) → ltb e w.len ≡ not (empty (rest_from w e))
    go l (yes below) = rw (lt-ltb _ _ below, ne_eqb (length (rest_from w e)) 0 (λ z. omega arith))
    go l (no above) = rw (le-ltb e w.len (omega arith), eq-eqb (length (rest_from w e)) 0 (omega arith))

-- whether anything stands behind it
pub plain_end : (w : Walk) (e : ℕ) → ReadUpTo w e → e ≡ w.len → empty (rest_from w e) ≡ true
plain_end w e ahead z = eq-eqb (length (rest_from w e)) 0 (omega (arith, rest_length w e ahead))

pub slash_end : (w : Walk) (e : ℕ) → ReadUpTo w e → (e ≡ w.len → ⊥) → empty (rest_from w e) ≡ false
slash_end w e ahead n = ne_eqb (length (rest_from w e)) 0 (λ z. n (omega (arith, rest_length w e ahead, ahead.within)))
