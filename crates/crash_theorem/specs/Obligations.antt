-- What an operation owes for the crash theorem, and which images are on the way. Assumes nothing.
use Rattle.std.specs.Prelude.{◌≡◌, ◌⊎◌, ◌≢◌, Bool, true, false, not, ◌≤◌, ◌<◌, T}
use Rattle.std.proofs.Math.Option.{none, some}
use Rattle.crash_theorem.specs.Pick.{All}
use Rattle.crash_theorem.specs.Store.{Store, Rows, Covers}
use Rattle.crash_theorem.specs.Change.{Change, plan, goal}

module _ {𝓢 : Store} (𝓒 : Change 𝓢) where
  -- ---- the images on the way

  -- whether the journal record may be set. Where its own row decides, it is not set before the decision
  abbrev pub MayMark : Bool → Type 0
  MayMark true = Unit {0}
  MayMark false = 𝓢.key 𝓒.decide ≢ 𝓒.journal

  -- X is on the way to `goal d`
  pub record OnTheWay (d : Bool) (X : 𝓢.Img) : Type 0 where
    -- it has the layout
    pub ok : 𝓢.Ok X
    -- every record but the journal's is as before or as after
    pub mixed : (k : 𝓢.Key) → k ≢ 𝓒.journal → (𝓢.get X k ≡ 𝓢.get 𝓒.before k) ⊎ (𝓢.get X k ≡ 𝓢.get 𝓒.after k)
    -- and, unless it is pending, as in the goal
    pub fixed : (k : 𝓢.Key) → k ≢ 𝓒.journal → 𝓒.pending d k ⊎ (𝓢.get X k ≡ 𝓢.get (goal 𝓒 d) k)
    -- the journal record is set, or X is the goal itself
    pub journal : ((𝓢.get X 𝓒.journal ≡ 𝓒.marked) × MayMark d) ⊎ (X ≡ goal 𝓒 d)

  -- ---- the rows

  -- sets the journal record, in a group before all others
  pub record Sets (r : 𝓢.Row) : Type 0 where
    -- the record is the journal's
    pub at_journal : 𝓢.key r ≡ 𝓒.journal
    -- it says that the call is under way
    pub mark : 𝓢.body r ≡ 𝓒.marked
    -- nothing else is written in this group or an earlier one
    pub early : 𝓢.group r ≤ 𝓒.first

  -- writes another record as it will be after the call
  pub record WritesFinal (r : 𝓢.Row) : Type 0 where
    -- the record is not the journal's
    pub elsewhere : 𝓢.key r ≢ 𝓒.journal
    -- it is written as it stays
    pub final : 𝓢.body r ≡ 𝓢.get 𝓒.after (𝓢.key r)
    -- the journal record is set by then
    pub later : 𝓒.first < 𝓢.group r

  -- a row up to the deciding one
  pub record Opens (r : 𝓢.Row) : Type 0 where
    -- it covers one record
    pub fits : 𝓢.Fits r
    -- it sets the journal record, or writes another after that
    pub kind : Sets r ⊎ WritesFinal r

  -- clears the journal record, in a group behind all others
  pub record Clears (r : 𝓢.Row) : Type 0 where
    -- the record is the journal's
    pub at_journal : 𝓢.key r ≡ 𝓒.journal
    -- nothing else is written in this group or a later one, so all of it has been applied by then
    pub late : 𝓒.last ≤ 𝓢.group r

  -- writes another record that may not be in the goal yet
  pub record Mends (d : Bool) (r : 𝓢.Row) : Type 0 where
    -- the record is not the journal's
    pub elsewhere : 𝓢.key r ≢ 𝓒.journal
    -- the journal record is still set
    pub earlier : 𝓢.group r < 𝓒.last
    -- only such a record may differ from the goal
    pub unsure : 𝓒.pending d (𝓢.key r)

  -- a row that leads to `goal d`
  pub record Settles (d : Bool) (r : 𝓢.Row) : Type 0 where
    -- it covers one record
    pub fits : 𝓢.Fits r
    -- it writes that record as it is in the goal
    pub aims : 𝓢.body r ≡ 𝓢.get (goal 𝓒 d) (𝓢.key r)
    -- it clears the journal record, or mends another before that
    pub kind : Clears r ⊎ Mends d r

  -- every record is as in the goal, or some row of the list writes it
  abbrev pub Cover : Bool → 𝓢.Img → Rows 𝓢 → Type 0
  Cover d X W = (k : 𝓢.Key) → (𝓢.get X k ≡ 𝓢.get (goal 𝓒 d) k) ⊎ Covers 𝓢 W k

  -- a row ahead of the deciding one
  pub record Ahead (r : 𝓢.Row) : Type 0 where
    -- it sets the journal record or writes one of the outcome
    pub opens : Opens r
    -- it is applied before the deciding row
    pub sooner : 𝓢.group r < 𝓢.group 𝓒.decide
    -- recovery takes back what it writes
    pub undone : (𝓢.key r ≡ 𝓒.journal) ⊎ 𝓒.pending false (𝓢.key r)
    -- where the journal record's own row decides, no row comes ahead of it
    pub other_decides : 𝓢.key 𝓒.decide ≢ 𝓒.journal

  -- a row after the deciding one
  pub record Behind (r : 𝓢.Row) : Type 0 where
    -- it leads to the image after
    pub settles : Settles true r
    -- it is applied after the deciding row
    pub waits : 𝓢.group 𝓒.decide < 𝓢.group r

  -- what recovery does on an image on the way to `goal d`, with the buffers b
  pub record Recovery (d : Bool) (X : 𝓢.Img) (b : 𝓢.Lent) : Type 0 where
    -- its rows
    pub rows : Rows 𝓢
    -- they are its answer
    pub answer : 𝓒.recover b X ≡ some rows
    -- each leads to the goal
    pub settle : All (Settles d) rows
    -- together they leave out nothing
    pub cover : Cover d X rows

  -- What an operation owes of its rows. The deciding row is alone in its group: the rows ahead of it are in lower groups, and those after it
  -- in higher ones.
  pub record Orderly : Type 0 where
    -- the image before has the layout
    pub before_ok : 𝓢.Ok 𝓒.before
    -- and so has the image after
    pub after_ok : 𝓢.Ok 𝓒.after
    -- each row ahead of the deciding one is in order
    pub ahead_rows : All Ahead 𝓒.ahead
    -- the deciding row sets the journal record or writes one of the outcome
    pub decide_row_lem : Opens 𝓒.decide
    -- each row after it is in order
    pub behind_rows : All Behind 𝓒.behind
    -- the journal record is set, by a row ahead or by the deciding one
    pub sets_journal : Covers 𝓢 𝓒.ahead 𝓒.journal ⊎ (𝓢.key 𝓒.decide ≡ 𝓒.journal)
    -- and cleared, by a row after the deciding one
    pub clears_journal : Covers 𝓢 𝓒.behind 𝓒.journal
    -- a record that the call changes is written by some row
    pub complete : (k : 𝓢.Key) → k ≢ 𝓒.journal → (𝓢.get 𝓒.before k ≡ 𝓢.get 𝓒.after k) ⊎ Covers 𝓢 (plan 𝓒) k

  -- What an operation owes.
  pub record Obligations : Type 0 where
    -- its rows are in order
    pub orderly : Orderly
    -- on any image on the way, with buffers that are long enough, recovery answers with rows that lead to the goal and leave out nothing.
    -- Other buffers may give other rows
    pub recovers : (d : Bool) (X : 𝓢.Img) → OnTheWay d X → (b : 𝓢.Lent) → T (𝓢.enough b X) → Recovery d X b
    -- and with buffers that are too short it refuses
    pub refuses : (X : 𝓢.Img) → 𝓢.Ok X → (b : 𝓢.Lent) → T (not (𝓢.enough b X)) → 𝓒.recover b X ≡ none
