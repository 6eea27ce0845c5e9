-- The draft of a recovery: one law for each kind of operation, and that its rows are such as an operation may write (rule 104). Assumes nothing.
use Rattle.std.specs.Prelude.{◌≡◌, ◌≢◌, true, false, cond, List, [], ◌∷◌, ◌++◌, ℕ, eqb}
use Rattle.std.proofs.Common.{◌∙◌, subst, ne_eqb}
use Rattle.std.proofs.Math.Option.{Option, none, some}
use Rattle.seq.specs.Truth.{by_test}
use Rattle.layout.specs.declared.Shape.{Shape}
use Rattle.layout.specs.Facts.{Laid}
use Rattle.layout.specs.View.{view_of, journal_at}
use Rattle.encode.specs.declared.journal.Journal.{Journal}
use Rattle.encode.specs.Journal.{rename_kind, exchange_kind, journal_of, journal_formed}
use Rattle.plan.specs.Write.{Write}
use Rattle.plan.specs.Filled.{AllWrites}
use Rattle.plan.proofs.WriteLaws.{writes_join}
use Rattle.recounts.specs.declared.Move.{Move}
use Rattle.results.specs.Results.{results, clear_row}
use Rattle.results.specs.InImage.{InImage}
use Rattle.results.proofs.Owed.{results_write, clear_writes}
use Rattle.exchanges.specs.Exchange.{exchange_results}
use Rattle.exchanges.proofs.ExchangeRows.{exchange_writes}
use Rattle.rename_drafts.specs.PendingRename.{rename_fits, move_from, entry_stands, into_good, undoing, finishing, move_draft, rename_draft}
use Rattle.exchange_drafts.specs.PendingExchange.{exchange_fits, finishing_exchange, exchange_draft}
use Rattle.drafts.specs.Draft.{kind_draft, draft}
use Rattle.rename_drafts.proofs.Fit.{fits_image}
use Rattle.exchange_drafts.proofs.ExchangeFit.{fits_both}

-- ---- the ways out of a draft

module _ (h : Shape) (x : List ℕ) where
  pub draft_unformed : journal_formed (journal_at h x) ≡ false → draft h x ≡ none
  unfolding draft
  draft_unformed bad = rw bad

  module _ (formed : journal_formed (journal_at h x) ≡ true) (j : Journal) (is : j ≡ journal_of (journal_at h x)) where
    kind_draft_lem : draft h x ≡ kind_draft h x j.kind j
    unfolding draft
    kind_draft_lem = rw (formed, is)

    pub draft_rename : j.kind ≡ rename_kind → draft h x ≡ rename_draft h x j
    draft_rename e = kind_draft_lem ∙ rw e

    pub draft_exchange : j.kind ≡ exchange_kind → draft h x ≡ exchange_draft h x j
    draft_exchange e = kind_draft_lem ∙ rw e

    pub draft_other : j.kind ≢ rename_kind → j.kind ≢ exchange_kind → draft h x ≡ none
    draft_other rename exchange = kind_draft_lem ∙ rw (ne_eqb _ _ rename, ne_eqb _ _ exchange)

-- ---- what a draft writes

-- rows that an operation may write; where there are none, there is nothing to ask
abbrev Owed : Shape → Option (List Write) → Type 0
Owed h none = Unit {0}
Owed h (some ws) = AllWrites h ws

module _ (h : Shape) (x : List ℕ) (laid : Laid h x) where
  undoing_owed : Owed h (some (undoing h x))
  undoing_owed = (clear_writes h, tt)

  cleared_owed : (ws : List Write) → AllWrites h ws → Owed h (some (ws ++ clear_row h ∷ []))
  cleared_owed ws each = writes_join h ws (clear_row h ∷ []) each (clear_writes h, tt)

  move_owed : (m : Move) → (into_good (view_of h x) m ≡ true → InImage h m) → Owed h (move_draft h x m)
  unfolding move_draft
  move_owed m range =
      by_test (Owed h) (entry_stands (view_of h x) m) _ _
      (λ _. by_test (Owed h) (into_good (view_of h x) m) (some (finishing h x m)) none (λ good. cleared_owed (results h x m) (results_write h x m laid (range good))) (λ _. tt))
      (λ _. undoing_owed)

  rename_owed : (j : Journal) → Owed h (rename_draft h x j)
  unfolding rename_draft
  rename_owed j =
      by_test (Owed h) (rename_fits h x j) (move_draft h x (move_from (view_of h x) j)) none (λ fit. move_owed _ (fits_image h x j fit)) (λ _. tt)

  exchange_owed : (j : Journal) → Owed h (exchange_draft h x j)
  unfolding exchange_draft
  exchange_owed j =
      let m = move_from (view_of h x) j in
      by_test (Owed h) (exchange_fits h x j) (some (finishing_exchange h x m)) none
      (λ fit. cleared_owed (exchange_results h x m) (exchange_writes h x laid m (fits_both h x j fit))) (λ _. tt)

  kind_owed : (k : ℕ) (j : Journal) → Owed h (kind_draft h x k j)
  kind_owed k j =
      by_test (Owed h) (eqb k rename_kind) (rename_draft h x j) (cond (eqb k exchange_kind) (exchange_draft h x j) none) (λ _. rename_owed j)
      (λ _. by_test (Owed h) (eqb k exchange_kind) (exchange_draft h x j) none (λ _. exchange_owed j) (λ _. tt))

  draft_owed : Owed h (draft h x)
  unfolding draft
  draft_owed =
      let j = journal_of (journal_at h x) in
      by_test (Owed h) (journal_formed (journal_at h x)) (kind_draft h x j.kind j) none (λ _. kind_owed j.kind j) (λ _. tt)

  -- so whatever rows a draft has, they can be applied
  pub draft_writes : (ws : List Write) → draft h x ≡ some ws → AllWrites h ws
  draft_writes ws e = subst (Owed h) e draft_owed
