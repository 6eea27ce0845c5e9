-- The kinds of operations by the numbers that their journal records have (form H). A reader has to believe this file. Assumes nothing.
use Rattle.std.specs.Prelude.{◌≡◌, ◌≢◌, Result, Ok, Err, ℕ}
use Rattle.encode.specs.declared.journal.Operation.{Operation}
use Rattle.encode.specs.declared.journal.Operation.TheVariants.{Rename, Exchange}
use Rattle.encode.specs.declared.journal.UnknownOperation.{UnknownOperation}
use Rattle.encode.specs.Journal.{rename_kind, exchange_kind}

abbrev pub kind_of : Operation → ℕ
kind_of Rename = rename_kind
kind_of Exchange = exchange_kind

-- the number is that operation's, or no operation's
abbrev pub Decodes : ℕ → Result Operation UnknownOperation → Type 0
Decodes kind (Ok operation) = kind ≡ kind_of operation
Decodes kind (Err unknown) = (kind ≢ rename_kind) × (kind ≢ exchange_kind)
