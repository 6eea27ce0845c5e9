-- What the journal record of an exchange leads to: when it fits, and the rows that finish the exchange (rules 106a and 108a). It is never taken back: the
-- record itself decides. A reader has to believe this file. Assumes nothing.
use Rattle.std.specs.Prelude.{Bool, ◌&&◌, ◌||◌, not, cond, List, [], ◌∷◌, ◌++◌, ℕ, eqb, ltb}
use Rattle.std.proofs.Math.Option.{Option, none, some}
use Rattle.layout.specs.declared.Shape.{Shape}
use Rattle.layout.specs.Limits.{absent}
use Rattle.layout.specs.View.{View, view_of, entry_used, is_directory}
use Rattle.encode.specs.declared.journal.Journal.{Journal}
use Rattle.plan.specs.Write.{Write}
use Rattle.recounts.specs.declared.Move.{Move}
use Rattle.results.specs.Results.{clear_row}
use Rattle.exchanges.specs.Exchange.{exchange_results}
use Rattle.rename_drafts.specs.PendingRename.{different, move_from, into_good}

-- rule 106a: the numbers are in range, both inodes among them, and no text is named
abbrev pub both_in_range : Shape → Journal → Bool
both_in_range h j =
    ltb j.old h.entries && ltb j.new h.entries && ltb j.moved h.inodes && ltb j.replaced h.inodes && eqb j.text absent

-- rule 106a: they differ as those of a rename do, and the replaced inode is not the root either
abbrev pub both_different : Journal → Bool
both_different j = different j && not (eqb j.replaced 0)

-- rule 106a: a slot is in use, and targets either inode: the two rows that exchange the targets may each have been applied or not
unfoldable pub slot_stands : View → Journal → ℕ → Bool
slot_stands v j k = entry_used v k && (eqb (v.target k) j.moved || eqb (v.target k) j.replaced)

-- rule 106a: the slots lie in the old parent and in a directory that is neither inode
unfoldable pub slots_stand : View → Journal → Bool
slots_stand v j = slot_stands v j j.old && slot_stands v j j.new && eqb (v.parent j.old) j.parent && into_good v (move_from v j)

-- rule 106a: the record of an exchange fits the image
unfoldable pub exchange_fits : Shape → List ℕ → Journal → Bool
exchange_fits h x j = both_in_range h j && both_different j && is_directory (view_of h x) j.parent && slots_stand (view_of h x) j

module _ (h : Shape) (x : List ℕ) where
  -- rule 108a: both entries and the inodes, made afresh, and then the cleared journal record finish it
  abbrev pub finishing_exchange : Move → List Write
  finishing_exchange m = exchange_results h x m ++ clear_row h ∷ []

  -- rules 106a and 108a: the rows of a pending exchange
  unfoldable pub exchange_draft : Journal → Option (List Write)
  exchange_draft j = cond (exchange_fits h x j) (some (finishing_exchange (move_from (view_of h x) j))) none
