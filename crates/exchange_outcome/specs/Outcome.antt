-- The finished image of an exchange, by its records (rule 93a). A reader has to believe this file. Assumes nothing.
use Rattle.std.specs.Prelude.{List, ℕ}
use Rattle.layout.specs.declared.Shape.{Shape}
use Rattle.plan.specs.Write.{store_all}
use Rattle.recounts.specs.declared.Move.{Move}
use Rattle.exchanges.specs.Exchange.{exchange_results}

-- The finished image: the one before with both entries, both inodes and the parents as exchanged, all else unchanged.
unfoldable pub exchanged : Shape → List ℕ → Move → List ℕ
exchanged h s m = store_all h s (exchange_results h s m)
