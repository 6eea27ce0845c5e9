-- A change given by its rows, and what is asked of them and of recovery. Assumes nothing.
use Rattle.std.specs.Prelude.{◌≡◌, Bool, true, false, List, [], ◌∷◌, ◌++◌, ◌<◌}
use Rattle.std.proofs.Math.Option.{Option, none, some}
use Rattle.crash_theorem.specs.Pick.{All}
use Rattle.crash_theorem.specs.Store.{Store, Rows, Covers, Spares, Distinct, put_all}
use Rattle.crash_theorem.specs.Change.{RecoverOf, Change}
use Rattle.crash_theorem.specs.Obligations.{OnTheWay, Settles}

-- Which row decides.
pub data Decider (R : Type 0) : Type 0 where
  -- a row of some other record; ahead of it come the rows of records that the call creates (a new directory)
  by_row : List R → R → Decider R
  -- the row that sets the journal record (an exchange); nothing comes ahead of it
  by_journal_lem : Decider R

module _ {R : Type 0} where
  -- the rows of created records
  abbrev pub created_of : Decider R → List R
  created_of (by_row created r) = created
  created_of by_journal_lem = []

  -- the rows ahead of the deciding one, by the row that sets the journal record
  abbrev pub ahead_of : R → Decider R → List R
  ahead_of set (by_row created r) = set ∷ created
  ahead_of set by_journal_lem = []

  -- the deciding row
  abbrev pub decide_of : R → Decider R → R
  decide_of set (by_row created r) = r
  decide_of set by_journal_lem = set

  -- the rows of all records but the journal's
  abbrev pub writes_of : Decider R → List R → List R
  writes_of (by_row created r) rest = created ++ r ∷ rest
  writes_of by_journal_lem rest = rest

  -- another record than the journal's decides
  abbrev pub ByRow : Decider R → Type 0
  ByRow (by_row created r) = Unit {0}
  ByRow by_journal_lem = ⊥

module _ (𝓢 : Store) where
  -- An operation by its rows. What they write is the outcome.
  pub record Plan : Type 0 where
    -- the image that the call was planned on
    pub before : 𝓢.Img
    -- the row that sets the journal record
    pub set : 𝓢.Row
    -- the deciding row, and the rows of created records ahead of it
    pub decider : Decider 𝓢.Row
    -- the rows of all other records, after the deciding one
    pub rest : Rows 𝓢
    -- the row that clears the journal record
    pub clear : 𝓢.Row

  -- its rows of all records but the journal's
  abbrev pub writes : Plan → Rows 𝓢
  writes p = writes_of p.decider p.rest

  -- its deciding row
  abbrev pub decide_row : Plan → 𝓢.Row
  decide_row p = decide_of p.set p.decider

  -- the image that the rows write
  abbrev pub after_of : Plan → 𝓢.Img
  after_of p = put_all 𝓢 p.before (writes p)

  -- the rows that remain once it is decided
  abbrev pub behind_of : Plan → Rows 𝓢
  behind_of p = p.rest ++ p.clear ∷ []

  -- created records are pending until the decision, the rest from then on
  abbrev pub PendingOf : Plan → Bool → 𝓢.Key → Type 0
  PendingOf p false k = Covers 𝓢 (created_of p.decider) k
  PendingOf p true k = Covers 𝓢 p.rest k

  -- the rows on one side of the decision: the records pending there, and the journal's, are among those that they write
  abbrev pub side_of : Plan → Bool → Rows 𝓢
  side_of p false = ahead_of p.set p.decider
  side_of p true = behind_of p

  -- on that side the journal record may be set
  abbrev pub OpenSide : Plan → Bool → Type 0
  OpenSide p false = ByRow p.decider
  OpenSide p true = Unit {0}

  -- the rows write all that the rows on that side write
  abbrev pub CoverSide : Plan → Bool → Rows 𝓢 → Type 0
  CoverSide p d us = (k : 𝓢.Key) → Covers 𝓢 (side_of p d) k → Covers 𝓢 us k

  -- an answer, where the buffers are long enough for one
  abbrev pub if_enough : Bool → Option (Rows 𝓢) → Option (Rows 𝓢)
  if_enough true answer = answer
  if_enough false answer = none

  -- recovery by what it finds on the image; with buffers that are too short it refuses
  abbrev pub lending : (𝓢.Img → Option (Rows 𝓢)) → RecoverOf 𝓢
  lending recover b X = if_enough (𝓢.enough b X) (recover X)

  -- the change that the rows make, with a recovery
  abbrev pub change : Plan → (𝓢.Img → Option (Rows 𝓢)) → Change 𝓢
  change p recover = record {
    before = p.before;
    after = after_of p;
    journal = 𝓢.key p.set;
    marked = 𝓢.body p.set;
    first = 𝓢.group p.set;
    last = 𝓢.group p.clear;
    ahead = ahead_of p.set p.decider;
    decide = decide_row p;
    behind = behind_of p;
    pending = PendingOf p;
    recover = lending recover;
  }

  -- What is asked of the rows.
  pub record WellFormed (p : Plan) : Type 0 where
    -- the image before has the layout
    pub ok : 𝓢.Ok p.before
    -- the row that sets the journal record covers one record
    pub set_fits : 𝓢.Fits p.set
    -- so does the one that clears it
    pub clear_fits : 𝓢.Fits p.clear
    -- and so does every other
    pub fits : All 𝓢.Fits (writes p)
    -- no record is written twice
    pub distinct : Distinct 𝓢 (writes p)
    -- and none of them is the journal's
    pub apart : Spares 𝓢 (writes p) (𝓢.key p.set)
    -- the clearing row is the journal record's
    pub clears : 𝓢.key p.clear ≡ 𝓢.key p.set
    -- and writes it as it was before
    pub restores : 𝓢.body p.clear ≡ 𝓢.get p.before (𝓢.key p.set)
    -- created records come after the journal record and ahead of the deciding row
    pub created_groups : All (λ r. (𝓢.group p.set < 𝓢.group r) × (𝓢.group r < 𝓢.group (decide_row p))) (created_of p.decider)
    -- the deciding row comes after the journal record, unless it is the one that sets it
    pub decide_group : ByRow p.decider → 𝓢.group p.set < 𝓢.group (decide_row p)
    -- the rest comes after the deciding row and ahead of the clearing one
    pub rest_groups : All (λ r. (𝓢.group (decide_row p) < 𝓢.group r) × (𝓢.group r < 𝓢.group p.clear)) p.rest
    -- which comes after the deciding row, also where there is no rest
    pub clear_group_lem : 𝓢.group (decide_row p) < 𝓢.group p.clear

  -- What is asked of recovery: where it has nothing to do, and its rows on every other image on the way. Rows say what becomes of records,
  -- and that is a matter of the image alone: buffers can only be too short.
  pub record Recovers (p : Plan) (recover : 𝓢.Img → Option (Rows 𝓢)) : Type 0 where
    -- the rows that take the call back
    pub undo : Rows 𝓢
    -- each leads to the image before
    pub undoes : All (Settles (change p recover) false) undo
    -- and they write all that the rows ahead of the decision write
    pub undo_all : (k : 𝓢.Key) → Covers 𝓢 (ahead_of p.set p.decider) k → Covers 𝓢 undo k
    -- the rows that finish it; the plan's own rows behind the decision will do
    pub redo : Rows 𝓢
    -- each leads to the image after
    pub redoes : All (Settles (change p recover) true) redo
    -- and they write all that the rows behind the decision write
    pub redo_all : (k : 𝓢.Key) → Covers 𝓢 (behind_of p) k → Covers 𝓢 redo k
    -- nothing to do on the image before
    pub at_before : recover p.before ≡ some []
    -- nor on the image after
    pub at_after : recover (after_of p) ≡ some []
    -- journal record set, but undecided: the call is taken back
    pub back : (X : 𝓢.Img) → ByRow p.decider → OnTheWay (change p recover) false X → 𝓢.get X (𝓢.key p.set) ≡ 𝓢.body p.set
        → recover X ≡ some undo
    -- journal record set, and decided: it is finished
    pub on : (X : 𝓢.Img) → OnTheWay (change p recover) true X → 𝓢.get X (𝓢.key p.set) ≡ 𝓢.body p.set → recover X ≡ some redo
