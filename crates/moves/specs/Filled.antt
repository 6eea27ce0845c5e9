-- All rows of a rename, put one behind the other and copied over a plan's buffer. Assumes nothing.
use Rattle.std.specs.Prelude.{◌≡◌, List, [], ◌∷◌, ℕ, ◌+◌, ◌<◌, ◌≤◌, length}
use Rattle.std.proofs.Common.{subst, arith, length-append}
use Rattle.seq.specs.Bytes.{put}
use Rattle.layout.specs.declared.Shape.{Shape}
use Rattle.plan.specs.declared.rows.Rows.{Rows}
use Rattle.plan.specs.Form.{plan_bytes, plan_rows, row_stored, cleared}
use Rattle.plan.specs.Write.{row_from}
use Rattle.plan.specs.Filled.{Filled}
use Rattle.plan.proofs.WriteLaws.{filled_one, filled_join, plan_filled}
use Rattle.plan.specs.Added.{no_rows, Added}
use Rattle.plan.proofs.AddedLaws.{added_join, rows_stored}
use Rattle.recounts.specs.declared.Move.{Move}
use Rattle.results.specs.Results.{results, clear_row}
use Rattle.results.proofs.ResultRows.{results_le}
use Rattle.moves.specs.Plan.{journal_row, entry_row, rename_rows, planned}

module _ (h : Shape) (s : List ℕ) (m : Move) (called : List ℕ) where
  pub rename_stored : (buffer : List ℕ) {a b c q : Rows} → plan_bytes ≤ length buffer → Added h no_rows (journal_row h s m called ∷ []) a
      → Added h a (entry_row h s m called ∷ []) b → Added h b (results h s m) c → Added h c (clear_row h ∷ []) q
      → (put buffer 0 q.bytes ≡ planned h s m called buffer) × (q.count ≡ length (rename_rows h s m called))
  unfolding planned rename_rows
  rename_stored buffer long first second rest last =
      rows_stored h buffer long (omega (arith, results_le h s m, length-append (results h s m) (clear_row h ∷ [])))
      (added_join h first (added_join h second (added_join h rest last)))

  -- there is a place behind the results
  pub rename_results_below : {p q : List ℕ} {n : ℕ} → Filled h p 2 (results h s m) q n → n < plan_rows
  rename_results_below f = omega (arith, f.next, results_le h s m)

  pub rename_filled : {z a b c d : List ℕ} {n : ℕ} → a ≡ row_stored z 0 (row_from h (journal_row h s m called)) → b ≡ row_stored a 1 (row_from h (entry_row h s m called))
      → Filled h b 2 (results h s m) c n → d ≡ row_stored c n (row_from h (clear_row h)) → Filled h z 0 (rename_rows h s m called) d (n + 1)
  unfolding rename_rows
  rename_filled first second rest last =
      filled_join h (filled_one h (journal_row h s m called) first)
      (filled_join h (filled_one h (entry_row h s m called) second) (filled_join h rest (filled_one h (clear_row h) last)))

  pub planned_filled : (p : List ℕ) {z d : List ℕ} {n : ℕ} → z ≡ cleared p → Filled h z 0 (rename_rows h s m called) d n
      → (d ≡ planned h s m called p) × (n ≡ length (rename_rows h s m called))
  unfolding planned
  planned_filled p e f = plan_filled h p e f

-- the same rows, said of an equal move and an equal name
pub planned_as : (h : Shape) (s p after : List ℕ) (n : ℕ) {m o : Move} {x y : List ℕ} → m ≡ o → x ≡ y
    → (after ≡ planned h s m x p) × (n ≡ length (rename_rows h s m x)) → (after ≡ planned h s o y p) × (n ≡ length (rename_rows h s o y))
planned_as h s p after n {o = o} {x = x} e f both =
    subst (λ (z : List ℕ). (after ≡ planned h s o z p) × (n ≡ length (rename_rows h s o z))) f
    (subst (λ (k : Move). (after ≡ planned h s k x p) × (n ≡ length (rename_rows h s k x))) e both)
