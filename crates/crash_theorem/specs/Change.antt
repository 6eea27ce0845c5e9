-- A journaled change: what one call writes, and the rows in which it writes it. Assumes nothing.
use Rattle.std.specs.Prelude.{Bool, true, false, ◌∷◌, ◌++◌, ℕ}
use Rattle.std.proofs.Math.Option.{Option}
use Rattle.crash_theorem.specs.Store.{Store, Rows}

-- What recovery (the papers' repair) answers, for the buffers that it is lent and an image: the rows to apply, or none where it refuses.
abbrev pub RecoverOf : Store → Type 0
RecoverOf 𝓢 = 𝓢.Lent → 𝓢.Img → Option (Rows 𝓢)

-- A call that was accepted, as the crash theorem sees it. `plan` and `pending` say in which order its records are written.
pub record Change (𝓢 : Store) : Type 1 where
  -- the image that the call was planned on
  pub before : 𝓢.Img
  -- the image once the call is done
  pub after : 𝓢.Img
  -- the journal record (the papers' note)
  pub journal : 𝓢.Key
  -- what the journal record holds while the call is under way
  pub marked : 𝓢.Body
  -- the journal record is set in a group up to this one, and all else is written in later groups
  pub first : ℕ
  -- the journal record is cleared in this group or a later one, and all else is written in earlier groups
  pub last : ℕ
  -- the rows ahead of the deciding one: the journal record's, and records that the call creates
  pub ahead : Rows 𝓢
  -- the deciding row (the papers' deciding store): once it is applied the call counts as done. It may be the journal record's own
  pub decide : 𝓢.Row
  -- the rows after it: what is left to write, and the clearing of the journal record
  pub behind : Rows 𝓢
  -- the records that may differ from where the call is going: `pending false` while undecided, `pending true` from then on
  pub pending : Bool → 𝓢.Key → Type 0
  -- the recovery that a crash calls
  pub recover : RecoverOf 𝓢

module _ {𝓢 : Store} (𝓒 : Change 𝓢) where
  -- all rows of the call's own plan
  abbrev pub plan : Rows 𝓢
  plan = 𝓒.ahead ++ 𝓒.decide ∷ 𝓒.behind

  -- where the call is going: back while undecided, on from then on
  abbrev pub goal : Bool → 𝓢.Img
  goal false = 𝓒.before
  goal true = 𝓒.after
