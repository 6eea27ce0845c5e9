-- The rows of a recovery fit a plan. Assumes nothing.
use Rattle.std.specs.Prelude.{◌≡◌, Bool, true, false, ◌||◌, cond, List, [], ◌∷◌, ◌++◌, ℕ, ◌≤◌, eqb, length}
use Rattle.std.proofs.Math.Path.{subst}
use Rattle.std.proofs.Math.Option.{Option, none, some}
use Rattle.std.proofs.Common.{arith, lit≤, length-append}
use Rattle.std.proofs.Math.Dec.{ltb}
use Rattle.layout.specs.declared.Shape.{Shape}
use Rattle.layout.specs.Errno.{inconsistent, short_buffer}
use Rattle.layout.specs.Contents.{layout_good, shape_of}
use Rattle.layout.specs.View.{view_of, journal_at}
use Rattle.encode.specs.declared.journal.Journal.{Journal}
use Rattle.encode.specs.Journal.{rename_kind, exchange_kind, journal_of, journal_formed}
use Rattle.consistency.specs.Sound.{journal_clear}
use Rattle.consistency.specs.Consistent.{consistent}
use Rattle.plan.specs.Form.{plan_rows, plan_bytes}
use Rattle.plan.specs.Write.{Write, store_all}
use Rattle.recounts.specs.declared.Move.{Move}
use Rattle.results.specs.Results.{results, clear_row}
use Rattle.results.proofs.ResultRows.{results_le}
use Rattle.exchanges.specs.Exchange.{exchange_results}
use Rattle.exchanges.proofs.ExchangeRows.{exchange_le}
use Rattle.rename_drafts.specs.PendingRename.{rename_fits, move_from, entry_stands, into_good, undoing, finishing, move_draft, rename_draft}
use Rattle.exchange_drafts.specs.PendingExchange.{exchange_fits, finishing_exchange, exchange_draft}
use Rattle.drafts.specs.Draft.{kind_draft, draft}
use Rattle.recover.specs.Recover.{if_consistent, pending_rows, recover}
use Rattle.recover.specs.Job.{Recovered, refused, done, by_rows, by_journal, recovered}

-- at most nine rows
abbrev Few : Option (List Write) → Type 0
Few none = Unit {0}
Few (some ws) = length ws ≤ plan_rows

few_cond : (b : Bool) (p q : Option (List Write)) → Few p → Few q → Few (cond b p q)
few_cond true p q f g = f
few_cond false p q f g = g

module _ (h : Shape) (x : List ℕ) where
  -- at most six, and the cleared journal record
  finishing_few : (ws : List Write) → length ws ≤ 6 → length (ws ++ clear_row h ∷ []) ≤ plan_rows
  finishing_few ws few = omega (arith, length-append ws (clear_row h ∷ []))

  move_few : (m : Move) → Few (move_draft h x m)
  unfolding move_draft
  move_few m =
      few_cond (entry_stands (view_of h x) m) _ (some (undoing h x))
      (few_cond (into_good (view_of h x) m) (some (finishing h x m)) none (finishing_few (results h x m) (results_le h x m)) tt) (lit≤ tt)

  rename_few : (j : Journal) → Few (rename_draft h x j)
  unfolding rename_draft
  rename_few j = few_cond (rename_fits h x j) (move_draft h x (move_from (view_of h x) j)) none (move_few (move_from (view_of h x) j)) tt

  exchange_few : (j : Journal) → Few (exchange_draft h x j)
  unfolding exchange_draft
  exchange_few j =
      let m = move_from (view_of h x) j in
      few_cond (exchange_fits h x j) (some (finishing_exchange h x m)) none (finishing_few (exchange_results h x m) (exchange_le h x m)) tt

  kind_few : (k : ℕ) (j : Journal) → Few (kind_draft h x k j)
  kind_few k j =
      few_cond (eqb k rename_kind) (rename_draft h x j) _ (rename_few j) (few_cond (eqb k exchange_kind) (exchange_draft h x j) none (exchange_few j) tt)

  draft_few : Few (draft h x)
  unfolding draft
  draft_few =
      let j = journal_of (journal_at h x) in
      few_cond (journal_formed (journal_at h x)) (kind_draft h x j.kind j) none (kind_few j.kind j) tt

  pub draft_rows : (ws : List Write) → draft h x ≡ some ws → length ws ≤ plan_rows
  draft_rows ws e = subst Few e draft_few

  checked_few : (o : Option (List Write)) → Few o → Few (if_consistent h x o)
  checked_few none f = tt
  checked_few (some ws) f = few_cond (consistent (store_all h x ws)) (some ws) none f tt

  pending_few : Few (pending_rows h x)
  unfolding pending_rows
  pending_few = checked_few (draft h x) draft_few

  pub recover_few : (ws : List Write) → recover h x ≡ some ws → length ws ≤ plan_rows
  unfolding recover
  recover_few ws e =
      subst Few e (few_cond (journal_clear h x) (cond (consistent x) (some []) none) (pending_rows h x)
      (few_cond (consistent x) (some []) none (omega arith) tt) pending_few)

-- the rows that the job answers
module _ (plan scratch x : List ℕ) where
  rows_cond : (b : Bool) (p q : Recovered) → p.rows ≤ plan_rows → q.rows ≤ plan_rows → (cond b p q).rows ≤ plan_rows
  rows_cond true p q f g = f
  rows_cond false p q f g = g

  by_few : (h : Shape) (o : Option (List Write)) → Few o → (by_rows plan scratch x h o).rows ≤ plan_rows
  by_few h none f = lit≤ tt
  by_few h (some ws) f = f

  pub recovered_few : (recovered plan scratch x).rows ≤ plan_rows
  unfolding recovered
  recovered_few =
      let h = shape_of x in
      rows_cond (ltb (length plan) plan_bytes || ltb (length scratch) (length x)) (refused plan scratch x short_buffer) _ (lit≤ tt)
      (rows_cond (layout_good x) (by_journal plan scratch x h) (refused plan scratch x inconsistent)
      (rows_cond (journal_clear h x) _ (by_rows plan scratch x h (pending_rows h x))
      (rows_cond (consistent x) (done plan scratch x h []) (refused plan scratch x inconsistent) (lit≤ tt) (lit≤ tt)) (by_few h (pending_rows h x) (pending_few h x)))
      (lit≤ tt))
