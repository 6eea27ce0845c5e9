-- An exchange's rows as a journaled plan. Assumes nothing.
use Rattle.std.specs.Prelude.{List, ℕ}
use Rattle.layout.specs.declared.Shape.{Shape}
use Rattle.encode.specs.Journal.{exchange_kind}
use Rattle.recounts.specs.declared.Move.{Move}
use Rattle.results.specs.Results.{clear_row}
use Rattle.results.specs.Start.{start_row}
use Rattle.exchanges.specs.Exchange.{exchange_results}
use Rattle.crash_theorem.specs.Plan.{by_journal_lem, Plan}
use Rattle.image_store.proofs.ImageLaws.{images}

-- the rows by what they do: the journal record is set and decides, the entries and the inodes follow, the journal record is cleared
abbrev pub exchange_plan : (h : Shape) (s : List ℕ) → Move → Plan (images h s)
exchange_plan h s m = record {
  before = s;
  set = start_row exchange_kind m;
  decider = by_journal_lem;
  rest = exchange_results h s m;
  clear = clear_row h;
}
