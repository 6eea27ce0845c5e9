-- Recovery of an image by its rows (the papers' word is repair): those of its journal record, where their outcome is consistent (rules 103 and 109). A reader
-- has to believe this file. Assumes nothing.
use Rattle.std.specs.Prelude.{cond, List, [], ℕ}
use Rattle.std.proofs.Math.Option.{Option, none, some}
use Rattle.layout.specs.declared.Shape.{Shape}
use Rattle.consistency.specs.Sound.{journal_clear}
use Rattle.consistency.specs.Consistent.{consistent}
use Rattle.plan.specs.Write.{Write, store_all}
use Rattle.drafts.specs.Draft.{draft}

module _ (h : Shape) (x : List ℕ) where
  -- rule 109: rows are answered only if their outcome is consistent
  abbrev pub if_consistent : Option (List Write) → Option (List Write)
  if_consistent none = none
  if_consistent (some ws) = cond (consistent (store_all h x ws)) (some ws) none

  -- what a journal record that is set leads to
  unfoldable pub pending_rows : Option (List Write)
  pending_rows = if_consistent (draft h x)

  -- rule 103: a clear one leaves nothing to do on a consistent image
  unfoldable pub recover : Option (List Write)
  recover = cond (journal_clear h x) (cond (consistent x) (some []) none) pending_rows
