-- The rows of an exchange meet what the journal asks of rows: each replaces one record whole, no two the same one, in groups that follow. Assumes nothing.
use Rattle.std.proofs.Math.Path.{refl}
use Rattle.std.proofs.Common.{sym, arith, lit<}
use Rattle.std.specs.Prelude.{◌≢◌, not, List, [], ◌∷◌, ◌++◌, ℕ, ◌≤◌, ◌<◌, eqb}
use Rattle.layout.specs.declared.Shape.{Shape}
use Rattle.layout.specs.Place.{Key}
use Rattle.layout.specs.View.{View, view_of}
use Rattle.encode.specs.Journal.{exchange_kind}
use Rattle.edits.proofs.ExchangedLaws.{slots_apart, side_not_own, side_not_there}
use Rattle.plan.specs.Form.{journal_group, clear_group}
use Rattle.plan.specs.Write.{Write, inode_key, entry_key}
use Rattle.plan.proofs.WriteLaws.{other_section}
use Rattle.recounts.specs.declared.Move.{Move}
use Rattle.results.specs.Results.{when, moved_row}
use Rattle.results.proofs.Owed.{clear_writes}
use Rattle.exchanges.specs.Exchange.{back, slot_row, parent_row, inode_rows, exchange_results}
use Rattle.exchanges.proofs.ExchangeRows.{exchange_writes}
use Rattle.crash_theorem.specs.Pick.{All}
use Rattle.crash_theorem.proofs.PickLaws.{all_join}
use Rattle.crash_theorem.specs.Store.{Distinct, Spares}
use Rattle.crash_theorem.specs.Plan.{WellFormed}
use Rattle.image_store.specs.Image.{Fits}
use Rattle.image_store.proofs.ImageLaws.{first_ok, images}
use Rattle.outcome.proofs.Rows.{writes_fit, start_fits, all_apart, distinct_when, section, index}
use Rattle.outcome.proofs.Whole.{clear_zeros}
use Rattle.exchange_outcome.specs.ExchangePlan.{exchange_plan}
use Rattle.exchange_outcome.specs.Paired.{Paired}
use Rattle.exchange_outcome.proofs.PairedLaws.{before_good, in_image}

-- ---- what holds of each row

-- the rows behind the old parent's
abbrev last_rows : Shape → List ℕ → Move → List Write
last_rows h s m = when (not (eqb m.into m.from)) (parent_row h s m m.into) ++ moved_row h s (back m) ∷ []

module _ (h : Shape) (s : List ℕ) (m : Move) (P : Write → Type 0) where
  last_all : (m.into ≢ m.from → P (parent_row h s m m.into)) → P (moved_row h s (back m)) → All P (last_rows h s m)
  last_all into replaced =
      all_join P (when (not (eqb m.into m.from)) (parent_row h s m m.into)) (moved_row h s (back m) ∷ [])
      (all_apart P m.into m.from _ into) (replaced, tt)

  pub inodes_all : P (moved_row h s m) → P (parent_row h s m m.from) → (m.into ≢ m.from → P (parent_row h s m m.into)) → P (moved_row h s (back m))
      → All P (inode_rows h s m)
  inodes_all moved from into replaced = (moved, (from, last_all into replaced))

  pub rows_all : P (slot_row h s (back m)) → P (slot_row h s m) → P (moved_row h s m) → P (parent_row h s m m.from)
      → (m.into ≢ m.from → P (parent_row h s m m.into)) → P (moved_row h s (back m)) → All P (exchange_results h s m)
  unfolding exchange_results
  rows_all old new moved from into replaced = (old, (new, inodes_all moved from into replaced))

-- ---- records that the rows do not replace

module _ (h : Shape) (s : List ℕ) (m : Move) where
  -- of another section: texts, handles and the journal record
  pub section_spared : (k i : ℕ) → 2 ≤ k → Spares (images h s) (exchange_results h s m) (record { section = k; index = i })
  section_spared k i l = rows_all h s m (λ w. w.key ≢ record { section = k; index = i })
      (before (lit< tt)) (before (lit< tt)) (before (lit< tt)) (before (lit< tt)) (λ _. before (lit< tt)) (before (lit< tt))
    where
      before : {j a : ℕ} → j < 2 → ◌≢◌ {A = Key} (record { section = j; index = a }) (record { section = k; index = i })
      before b = other_section _ _ (λ e. omega arith)

  pub entry_spared : (j : ℕ) → j ≢ m.old → j ≢ m.new → Spares (images h s) (exchange_results h s m) (entry_key j)
  entry_spared j old new = rows_all h s m (λ w. w.key ≢ entry_key j)
      (index (λ e. old (sym e))) (index (λ e. new (sym e))) (section refl) (section refl) (λ _. section refl) (section refl)

  pub inode_spared : (i : ℕ) → i ≢ m.moved → i ≢ m.from → i ≢ m.into → i ≢ m.replaced → Spares (images h s) (exchange_results h s m) (inode_key i)
  inode_spared i moved from into replaced = rows_all h s m (λ w. w.key ≢ inode_key i) (section refl) (section refl)
      (index (λ e. moved (sym e))) (index (λ e. from (sym e))) (λ _. index (λ e. into (sym e))) (index (λ e. replaced (sym e)))

module _ {h : Shape} {s : List ℕ} {m : Move} (c : Paired h s m) where
  abbrev v : View
  v = view_of h s

  -- ---- each row replaces a record whole

  pub results_fit : All (Fits h) (exchange_results h s m)
  results_fit = writes_fit h (exchange_results h s m) (exchange_writes h s c.read.laid m (in_image c))

  -- ---- no two replace one record

  results_distinct : Distinct (images h s) (exchange_results h s m)
  unfolding exchange_results
  results_distinct =
      let good = before_good c in
      let first = c.allowed.first in
      let second = c.allowed.second in
      let apart = slots_apart c.allowed in (
        (index (λ e. apart (sym e)), (section refl, (section refl, spares (entry_key m.old) (λ _. section refl) (section refl)))),
        (
          (section refl, (section refl, spares (entry_key m.new) (λ _. section refl) (section refl))),
          (
            (
              index (λ e. side_not_own good first (sym e)),
              spares (inode_key m.moved) (λ _. index (λ e. side_not_there good first (sym e))) (index (λ e. c.allowed.other (sym e))),
            ),
            (
              spares (inode_key m.from) (λ n. index n) (index (side_not_there good second)),
              distinct_when h s (not (eqb m.into m.from)) (parent_row h s m m.into) (moved_row h s (back m) ∷ [])
                  (λ _. (index (side_not_own good second), tt)) (tt, tt),
            ),
          ),
        ),
      )
    where
      spares : (k : Key) → (m.into ≢ m.from → inode_key m.into ≢ k) → inode_key m.replaced ≢ k → Spares (images h s) (last_rows h s m) k
      spares k = last_all h s m (λ w. w.key ≢ k)

  -- ---- the whole plan

  pub well_formed : WellFormed (images h s) (exchange_plan h s m)
  well_formed = record {
    ok = first_ok h s c.read;
    set_fits = start_fits h exchange_kind m;
    clear_fits = record { writes = clear_writes h };
    fits = results_fit;
    distinct = results_distinct;
    apart = section_spared h s m 4 0 (omega arith);
    clears = refl;
    restores = sym (clear_zeros c.read c.clear);
    created_groups = tt;
    decide_group = λ b. absurd b;
    rest_groups = rows_all h s m (λ w. (journal_group < w.group) × (w.group < clear_group))
        (lit< tt, lit< tt) (lit< tt, lit< tt) (lit< tt, lit< tt) (lit< tt, lit< tt) (λ _. (lit< tt, lit< tt)) (lit< tt, lit< tt);
    clear_group_lem = lit< tt;
  }
