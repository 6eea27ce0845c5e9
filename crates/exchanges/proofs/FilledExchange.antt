-- The rows of an exchange in a plan's bytes: put from a place on, and all of them from a cleared plan on. Assumes nothing.
use Rattle.std.specs.Prelude.{◌≡◌, ◌≢◌, not, List, ℕ, ◌+◌, eqb, length}
use Rattle.std.proofs.Common.{arith, eq-eqb, ne_eqb}
use Rattle.layout.specs.declared.Shape.{Shape}
use Rattle.encode.specs.Journal.{exchange_kind}
use Rattle.plan.specs.Form.{row_stored, cleared}
use Rattle.plan.specs.Write.{row_from}
use Rattle.plan.specs.Filled.{Filled}
use Rattle.plan.proofs.WriteLaws.{filled_one, filled_join, plan_filled}
use Rattle.recounts.specs.declared.Move.{Move}
use Rattle.results.specs.Results.{clear_row}
use Rattle.results.specs.Start.{start_row}
use Rattle.results.proofs.FilledRows.{when_one, when_none}
use Rattle.exchanges.specs.Exchange.{parent_row, parent_rows, slot_rows, inode_rows, exchange_results, exchange_rows, exchange_planned}

module _ (h : Shape) (s : List ℕ) (m : Move) where
  pub parents_one : {p q : List ℕ} {i : ℕ} → m.into ≡ m.from → q ≡ row_stored p i (row_from h (parent_row h s m m.from))
      → Filled h p i (parent_rows h s m) q (i + 1)
  parents_one e a =
      filled_join h (filled_one h (parent_row h s m m.from) a)
      (when_none h (parent_row h s m m.into) (not (eqb m.into m.from)) (rw (eq-eqb _ _ e)))

  pub parents_two : {p q r : List ℕ} {i : ℕ} → m.into ≢ m.from → q ≡ row_stored p i (row_from h (parent_row h s m m.from))
      → r ≡ row_stored q (i + 1) (row_from h (parent_row h s m m.into)) → Filled h p i (parent_rows h s m) r (i + 2)
  parents_two {p} {q} {r} {i} n a b =
      let two : i + 1 + 1 ≡ i + 2 = omega arith in
      rw (← two) (filled_join h (filled_one h (parent_row h s m m.from) a)
      (when_one h (parent_row h s m m.into) (not (eqb m.into m.from)) (rw (ne_eqb _ _ n)) b))

  pub exchange_filled : {p q r : List ℕ} {i n : ℕ} → Filled h p i (slot_rows h s m) q (i + 2) → Filled h q (i + 2) (inode_rows h s m) r n
      → Filled h p i (exchange_results h s m) r n
  unfolding exchange_results
  exchange_filled slots inodes = filled_join h slots inodes

  -- all rows, from a cleared plan on
  pub exchange_planned_lem : (p : List ℕ) {z a b d : List ℕ} {n : ℕ} → z ≡ cleared p → a ≡ row_stored z 0 (row_from h (start_row exchange_kind m))
      → Filled h a 1 (exchange_results h s m) b n → d ≡ row_stored b n (row_from h (clear_row h))
      → (d ≡ exchange_planned h s m p) × (n + 1 ≡ length (exchange_rows h s m))
  unfolding exchange_planned exchange_rows
  exchange_planned_lem p e first rest last =
      plan_filled h p e (filled_join h (filled_one h (start_row exchange_kind m) first) (filled_join h rest (filled_one h (clear_row h) last)))
