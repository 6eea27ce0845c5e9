-- A line of a table of renames: what is asked, and what the definitions of the jobs rename, land and check make of it. A reader has to believe this file.
-- Assumes nothing.
use Rattle.std.specs.Prelude.{Bool, true, ◌&&◌, cond, List, [], ◌∷◌, ◌++◌, map, ℕ, zero, suc, eqb, replicate, drop}
use Rattle.seq.specs.Search.{first}
use Rattle.seq.specs.Bytes.{part, zeros}
use Rattle.layout.specs.Place.{record_bytes}
use Rattle.layout.specs.Contents.{shape_of}
use Rattle.layout.specs.Fields.{journal_new_slot}
use Rattle.layout.specs.View.{View, view_of, inode_at}
use Rattle.consistency.specs.Consistent.{check_number}
use Rattle.paths.specs.declared.request.Request.{Request}
use Rattle.plan.specs.Form.{plan_rows, plan_bytes, header_bytes, header_at, row_at}
use Rattle.apply.specs.Apply.{apply_number, applied_image}
use Rattle.rename.specs.Renamed.{Renamed}
use Rattle.rename.specs.Job.{renamed, plan_after}

-- The arguments of the job rename, but for the plan buffer.
pub record Asked : Type 0 where
  pub image : List ℕ
  pub request : Request
  pub old : List ℕ
  pub new : List ℕ

-- A directory entry, and the slot it stands in.
pub record EntrySeen : Type 0 where
  pub slot : ℕ
  pub parent : ℕ
  pub target : ℕ
  pub name : List ℕ

-- What a plan with rows says, and the image after all of them.
pub record Applied : Type 0 where
  -- in that image, the entry in the new slot, which is the one that the journal record names
  pub entry : EntrySeen
  -- the link count of each inode, and the lowest inode that is all zero, or the number of inodes where none is
  pub links : List ℕ
  pub free : ℕ
  -- the job land answers 0 for each row; what the job check answers for that image
  pub applies : Bool
  pub check : ℕ
  -- the nine headers, and the buffer's bytes past the plan
  pub headers : List (List ℕ)
  pub past : List ℕ

-- The plan buffer after the job: its bytes where it has no rows, or what the rows do.
pub data BufferAfter : Type 0 where
  bytes : List ℕ → BufferAfter
  planned : Applied → BufferAfter

-- Number, rows and both walk counts, and the plan buffer.
pub record Outcome : Type 0 where
  pub answer : Renamed
  pub after : BufferAfter

pub record Line : Type 0 where
  pub asked : Asked
  pub expected : Outcome

-- the plan buffer of every line: longer than a plan, and no byte of it zero
abbrev pub past : List ℕ
past = 7 ∷ 7 ∷ []

abbrev pub dirty : List ℕ
dirty = replicate plan_bytes 7 ++ past

-- the numbers below n
unfoldable pub below : ℕ → List ℕ
below zero = []
below (suc n) = below n ++ n ∷ []

-- An image on the way through a plan, and whether the job land has answered 0 for every row so far.
pub record Progress : Type 0 where
  pub image : List ℕ
  pub applies : Bool

abbrev pub apply_next : List ℕ → ℕ → Progress → Progress
apply_next plan i w = record { image = applied_image w.image plan i; applies = w.applies && eqb (apply_number w.image plan i) 0 }

-- through the first n rows, in listed order
unfoldable pub apply_rows : List ℕ → List ℕ → ℕ → Progress
apply_rows image plan zero = record { image = image; applies = true }
apply_rows image plan (suc n) = apply_next plan n (apply_rows image plan n)

abbrev pub entry_of : View → ℕ → EntrySeen
entry_of v slot = record { slot = slot; parent = v.parent slot; target = v.target slot; name = v.name slot }

-- w is the way through all rows, and v what its image says
abbrev pub applied_of : List ℕ → Progress → View → Applied
applied_of plan w v = record {
  entry = entry_of v (journal_new_slot (row_at plan 0).body);
  links = map v.links (below v.inodes);
  free = first (λ i. zeros (inode_at (shape_of w.image) w.image i) 0 (record_bytes (shape_of w.image) 0)) v.inodes;
  applies = w.applies;
  check = check_number w.image;
  headers = map (λ i. part plan (header_at i) header_bytes) (below plan_rows);
  past = drop plan_bytes plan;
}

abbrev pub applied_by : List ℕ → Progress → Applied
applied_by plan w = applied_of plan w (view_of (shape_of w.image) w.image)

abbrev pub afterwards : List ℕ → List ℕ → ℕ → BufferAfter
afterwards image plan rows = cond (eqb rows 0) (bytes plan) (planned (applied_by plan (apply_rows image plan rows)))

abbrev pub outcome_by : List ℕ → List ℕ → Renamed → Outcome
outcome_by image plan r = record { answer = r; after = afterwards image plan r.rows }

unfoldable pub outcome : Asked → Outcome
outcome a =
    outcome_by a.image (plan_after a.image dirty a.request a.old a.new) (renamed a.image dirty a.request a.old a.new)
