-- The rows of a rename meet what the journal asks of rows: each replaces one record whole, no two the same one, in groups that follow. Assumes nothing.
use Rattle.std.specs.Prelude.{◌≡◌, refl, ◌≢◌, not, List, ◌∷◌, ◌++◌, ℕ, ◌≤◌, ◌<◌, eqb}
use Rattle.std.proofs.Common.{sym, ap, append_assoc, arith, lit<, lit≤}
use Rattle.layout.specs.declared.Shape.{Shape}
use Rattle.layout.specs.Limits.{absent}
use Rattle.layout.specs.Place.{Key}
use Rattle.layout.specs.View.{view_of}
use Rattle.encode.specs.Journal.{rename_kind}
use Rattle.edits.proofs.Finished.{slots_differ, moved_not_from, moved_not_into}
use Rattle.plan.specs.Form.{clear_group, entry_group}
use Rattle.plan.specs.Write.{Write, inode_key, entry_key, text_key}
use Rattle.plan.proofs.WriteLaws.{other_section}
use Rattle.recounts.specs.declared.Move.{Move}
use Rattle.recounts.specs.Recount.{links_after}
use Rattle.results.specs.Results.{present, old_row, moved_row, holder_row, replaced_row, text_row, into_rows, replaced_rows, text_rows, results}
use Rattle.recounts.proofs.Links.{links_le}
use Rattle.results.proofs.Owed.{results_write, clear_writes}
use Rattle.crash_theorem.specs.Pick.{All}
use Rattle.crash_theorem.proofs.PickLaws.{all_join}
use Rattle.crash_theorem.specs.Store.{Distinct, Spares}
use Rattle.crash_theorem.specs.Plan.{WellFormed}
use Rattle.moves.specs.Plan.{entry_row}
use Rattle.image_store.specs.Image.{Fits}
use Rattle.image_store.proofs.ImageLaws.{first_ok, images}
use Rattle.outcome.specs.RenamePlan.{rename_plan, asked}
use Rattle.outcome.proofs.Rows.{writes_fit, start_fits, all_when, all_apart, distinct_when, one_when, section, index}
use Rattle.outcome.specs.Called.{Called}
use Rattle.outcome.proofs.CalledLaws.{before_good, in_image, replaced_not_moved, replaced_not_from, replaced_not_into, new_entry_names, journal_zeros}

-- ---- what holds of each result

pub results_are : (h : Shape) (s : List ℕ) (m : Move) → results h s m ≡ old_row h s m ∷ moved_row h s m ∷ holder_row h s m m.from ∷ asked h s m
unfolding results
results_are h s m =
    ap (λ (ws : List Write). old_row h s m ∷ moved_row h s m ∷ holder_row h s m m.from ∷ ws)
    (append_assoc (into_rows h s m) (replaced_rows h s m) (text_rows h s m))

module _ (h : Shape) (s : List ℕ) (m : Move) (P : Write → Type 0) where
  module _ (replaced : m.replaced ≢ absent → P (replaced_row h s m)) (text : m.text ≢ absent → P (text_row h s m)) where
    freeing_all : All P (replaced_rows h s m ++ text_rows h s m)
    freeing_all = all_join P (replaced_rows h s m) (text_rows h s m)
        (all_apart P m.replaced absent _ replaced) (all_apart P m.text absent _ text)

    module _ (into : m.into ≢ m.from → P (holder_row h s m m.into)) where
      asked_all : All P (asked h s m)
      asked_all = all_join P (into_rows h s m) _ (all_apart P m.into m.from _ into) freeing_all

      pub results_all : P (old_row h s m) → P (moved_row h s m) → P (holder_row h s m m.from) → All P (results h s m)
      results_all old moved from = rw results_are (old, (moved, (from, asked_all)))

-- ---- records that the rows do not replace

module _ (h : Shape) (s : List ℕ) (m : Move) where
  -- of another section: handles and the journal record
  pub section_spared : (k i : ℕ) → 3 ≤ k → Spares (images h s) (results h s m) (record { section = k; index = i })
  section_spared k i l = results_all h s m (λ w. w.key ≢ record { section = k; index = i })
      (λ _. before (lit< tt)) (λ _. before (lit< tt)) (λ _. before (lit< tt)) (before (lit< tt)) (before (lit< tt)) (before (lit< tt))
    where
      before : {j a : ℕ} → j < 3 → ◌≢◌ {A = Key} (record { section = j; index = a }) (record { section = k; index = i })
      before b = other_section _ _ (λ e. omega arith)

  pub entry_spared : (j : ℕ) → j ≢ m.old → Spares (images h s) (results h s m) (entry_key j)
  entry_spared j n = results_all h s m (λ w. w.key ≢ entry_key j)
      (λ _. section refl) (λ _. section refl) (λ _. section refl)
      (index (λ e. n (sym e))) (section refl) (section refl)

  pub text_spared : (t : ℕ) → t ≢ m.text → Spares (images h s) (results h s m) (text_key t)
  text_spared t n = results_all h s m (λ w. w.key ≢ text_key t)
      (λ _. section refl) (λ _. index (λ e. n (sym e))) (λ _. section refl)
      (section refl) (section refl) (section refl)

  pub inode_spared : (i : ℕ) → i ≢ m.moved → i ≢ m.from → i ≢ m.into → i ≢ m.replaced → Spares (images h s) (results h s m) (inode_key i)
  inode_spared i moved from into replaced = results_all h s m (λ w. w.key ≢ inode_key i)
      (λ _. index (λ e. replaced (sym e))) (λ _. section refl) (λ _. index (λ e. into (sym e)))
      (section refl) (index (λ e. moved (sym e))) (index (λ e. from (sym e)))

module _ {h : Shape} {s : List ℕ} {m : Move} {called : List ℕ} (c : Called h s m called) where
  -- ---- each row replaces a record whole

  pub links_small : (i : ℕ) → links_after (view_of h s) m i < 65536
  unfolding view_of
  links_small i = omega (arith, links_le (view_of h s) m i, c.read.laid.entries_most)

  pub results_fit : All (Fits h) (results h s m)
  results_fit = writes_fit h (results h s m) (results_write h s m c.read.laid (in_image c))

  entry_fits : Fits h (entry_row h s m called)
  entry_fits = record {
    writes = record {
      first = lit≤ tt;
      last = lit≤ tt;
      valid = record { in_image = lit< tt; in_section = (in_image c).new };
      allowed = refl;
      whole = (new_entry_names c).long;
    };
  }

  -- ---- no two replace one record

  results_distinct : Distinct (images h s) (results h s m)
  results_distinct =
      let good = before_good c in
      let ok = c.allowed in
      rw results_are (
        (section refl, (section refl, spares (entry_key m.old) (λ _. section refl) (λ _. section refl) (λ _. section refl))),
        (
          (
            index (λ e. moved_not_from good ok (sym e)),
            spares (inode_key m.moved) (λ n. index (replaced_not_moved c n)) (λ _. section refl) (λ _. index (λ e. moved_not_into good ok (sym e))),
          ),
          (spares (inode_key m.from) (λ n. index (replaced_not_from c n)) (λ _. section refl) (λ n. index n), asked_distinct),
        ),
      )
    where
      spares : (k : Key) → (m.replaced ≢ absent → inode_key m.replaced ≢ k) → (m.text ≢ absent → text_key m.text ≢ k)
          → (m.into ≢ m.from → inode_key m.into ≢ k) → Spares (images h s) (asked h s m) k
      spares k = asked_all h s m (λ w. w.key ≢ k)

      asked_distinct : Distinct (images h s) (asked h s m)
      asked_distinct = distinct_when h s (not (eqb m.into m.from)) _ _
          (λ _. freeing_all h s m (λ w. w.key ≢ inode_key m.into) (λ n. index (replaced_not_into c n)) (λ _. section refl))
          (distinct_when h s (present m.replaced) _ _ (λ _. all_when (λ w. w.key ≢ inode_key m.replaced) (present m.text) _ (λ _. section refl))
          (one_when h s (present m.text) (text_row h s m)))

  -- ---- the whole plan

  pub well_formed : WellFormed (images h s) (rename_plan h s m called)
  well_formed = record {
    ok = first_ok h s c.read;
    set_fits = start_fits h rename_kind m;
    clear_fits = record { writes = clear_writes h };
    fits = (entry_fits, results_fit);
    distinct = (entry_spared h s m m.new (λ e. slots_differ (before_good c) c.allowed (sym e)), results_distinct);
    apart = (section refl, section_spared h s m 4 0 (omega arith));
    clears = refl;
    restores = sym (journal_zeros c);
    created_groups = tt;
    decide_group = λ _. lit< tt;
    rest_groups = results_all h s m (λ w. (entry_group < w.group) × (w.group < clear_group)) (λ _. (lit< tt, lit< tt)) (λ _. (lit< tt, lit< tt)) (λ _. (lit< tt, lit< tt))
        (lit< tt, lit< tt) (lit< tt, lit< tt) (lit< tt, lit< tt);
    clear_group_lem = lit< tt;
  }
