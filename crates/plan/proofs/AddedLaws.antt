-- Rows put behind others, as the writes that they are, and all of them copied over a plan's buffer. Assumes nothing.
use Rattle.std.specs.Prelude.{◌≡◌, List, [], ◌∷◌, ◌++◌, ℕ, ◌≤◌, length}
use Rattle.std.proofs.Math.Path.{sym, ap, subst}
use Rattle.std.proofs.Common.{◌∙◌, arith}
use Rattle.std.proofs.lemmas.List.{map-append, length-map, length-replicate}
use Rattle.seq.specs.Bytes.{put}
use Rattle.layout.specs.declared.Shape.{Shape}
use Rattle.layout.specs.Place.{place}
use Rattle.plan.specs.declared.rows.Rows.{Rows}
use Rattle.plan.specs.Form.{Row, plan_rows, plan_bytes, body_bytes, row_of, rows_put, cleared}
use Rattle.plan.specs.Filled.{Filled}
use Rattle.plan.specs.Write.{Write, row_from, rows_from}
use Rattle.plan.specs.Stands.{Each}
use Rattle.plan.specs.Added.{no_rows, BodyFits, Pushed, Added}
use Rattle.plan.proofs.WriteLaws.{row_put, filled_none, filled_one, filled_join}
use Rattle.plan.proofs.Copied.{rows_copied}

each_join : (rs qs : List Row) → Each BodyFits rs → Each BodyFits qs → Each BodyFits (rs ++ qs)
each_join [] qs a b = b
each_join (r ∷ rs) qs a b = (a.0, each_join rs qs a.1 b)

module _ (h : Shape) where
  -- none, one at the place of its record, and some behind others
  pub added_none : (p : Rows) → Added h p [] p
  added_none p = record { filled = filled_none h p.bytes p.count; fits = tt }

  pub added_one : (w : Write) {p q : Rows} {at : ℕ} {b : List ℕ} → Pushed p (row_of w.group at b) q → at ≡ place h w.key.section w.key.index → b ≡ w.body
      → Added h p (w ∷ []) q
  added_one w {p} {q} a begins whole =
      record {
        filled = subst (λ (n : ℕ). Filled h p.bytes p.count (w ∷ []) q.bytes n) (sym a.count) (filled_one h w (row_put h w p.bytes p.count a.bytes begins whole));
        fits = (subst (λ (x : List ℕ). length x ≤ body_bytes) whole a.fits, tt);
      }

  pub added_join : {p q r : Rows} {us ws : List Write} → Added h p us q → Added h q ws r → Added h p (us ++ ws) r
  added_join {us = us} {ws = ws} a b =
      record {
        filled = filled_join h a.filled b.filled;
        fits = subst (λ (rs : List Row). Each BodyFits rs) (sym (map-append (row_from h) us ws)) (each_join (rows_from h us) (rows_from h ws) a.fits b.fits);
      }

  pub rows_stored : (buffer : List ℕ) {q : Rows} {ws : List Write} → plan_bytes ≤ length buffer → length ws ≤ plan_rows → Added h no_rows ws q
      → (put buffer 0 q.bytes ≡ rows_put (cleared buffer) 0 (rows_from h ws)) × (q.count ≡ length ws)
  unfolding cleared
  rows_stored buffer {ws = ws} long few a =
      let exact : length no_rows.bytes ≡ plan_bytes = length-replicate {A = ℕ} plan_bytes 0 in
      let n : length (rows_from h ws) ≡ length ws = length-map ws _ in (
        ap (λ (xs : List ℕ). put buffer 0 xs) a.filled.plan
            ∙ sym (rows_copied buffer long (rows_from h ws) no_rows.bytes 0 exact (omega (arith, few)) a.fits),
        omega (arith, a.filled.next),
      )
