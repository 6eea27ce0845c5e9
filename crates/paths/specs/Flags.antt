-- The flags of a request (rule 42a). A reader has to believe this file. Assumes nothing.
use Rattle.std.specs.Prelude.{Bool, ◌||◌, ℕ, eqb}
use Rattle.paths.specs.declared.request.Request.{Request}

-- numbered as on Linux
abbrev pub no_replace_flag : ℕ
no_replace_flag = 1

abbrev pub exchange_flag : ℕ
exchange_flag = 2

-- what is asked for: a rename, one that replaces nothing, or an exchange
abbrev pub asks_plain : Request → Bool
asks_plain q = eqb q.flags 0

abbrev pub asks_no_replace : Request → Bool
asks_no_replace q = eqb q.flags no_replace_flag

abbrev pub asks_exchange : Request → Bool
asks_exchange q = eqb q.flags exchange_flag

-- rule 42a: both flags together, or a bit that is no flag, ask for nothing that there is
unfoldable pub flags_good : Request → Bool
flags_good q = asks_plain q || asks_no_replace q || asks_exchange q
