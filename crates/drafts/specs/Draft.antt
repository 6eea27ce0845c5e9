-- What a journal record leads to: the rows that finish its operation or take it back, by the kind of the operation (rule 104). A reader has to believe this file.
-- Assumes nothing.
use Rattle.std.specs.Prelude.{cond, List, ℕ, eqb}
use Rattle.std.proofs.Math.Option.{Option, none}
use Rattle.layout.specs.declared.Shape.{Shape}
use Rattle.layout.specs.View.{journal_at}
use Rattle.encode.specs.declared.journal.Journal.{Journal}
use Rattle.encode.specs.Journal.{rename_kind, exchange_kind, journal_of, journal_formed}
use Rattle.plan.specs.Write.{Write}
use Rattle.rename_drafts.specs.PendingRename.{rename_draft}
use Rattle.exchange_drafts.specs.PendingExchange.{exchange_draft}

module _ (h : Shape) (x : List ℕ) where
  -- rule 104: the rows by the kind of the operation; there are no others
  abbrev pub kind_draft : ℕ → Journal → Option (List Write)
  kind_draft kind j = cond (eqb kind rename_kind) (rename_draft h x j) (cond (eqb kind exchange_kind) (exchange_draft h x j) none)

  -- rule 104: a record that is not formed fits no operation
  unfoldable pub draft : Option (List Write)
  draft = cond (journal_formed (journal_at h x)) (kind_draft (journal_of (journal_at h x)).kind (journal_of (journal_at h x))) none
