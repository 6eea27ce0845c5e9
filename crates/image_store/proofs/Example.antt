-- A small image and a call on it that meets every demand, as four jobs of one plan, with a job that recovers it; and lists of events, computed
-- on bytes. Assumes nothing.
use Rattle.std.specs.Prelude.{◌≡◌, refl, Bool, true, false, not, ◌||◌, cond, List, [], ◌∷◌, ◌++◌, map, ℕ, ◌≤◌, ◌<◌, T, eqb, ltb, get_or, length, replicate}
use Rattle.std.proofs.Common.{subst, inl, ⊎_elim, arith, lit<, lit≤, lt-ltb, le-ltb}
use Rattle.std.proofs.Math.Bool.{or-true}
use Rattle.std.proofs.Math.Option.{Option, some, some-injective}
use Rattle.seq.specs.Search.{any, all, first}
use Rattle.seq.specs.Bytes.{part, put, zeros}
use Rattle.seq.specs.Number.{number_at, bytes_of}
use Rattle.layout.specs.declared.Shape.{Shape}
use Rattle.layout.specs.Place.{Key, record_bytes}
use Rattle.layout.specs.Facts.{Valid, Read}
use Rattle.layout.specs.Contents.{name_is, shape_of, layout_good}
use Rattle.layout.specs.Record.{record_at, store}
use Rattle.plan.specs.Form.{plan_rows, plan_bytes, row_at, header_of, row_stored, rows_put, cleared, no_row, count_of_rows}
use Rattle.plan.specs.Jobs.{jobs_in}
use Rattle.plan.specs.Fit.{coverable, covers_section, covers, is_fitting_row, applicable}
use Rattle.plan.specs.Write.{Write, inode_key, entry_key, journal_key, store_all}
use Rattle.plan.proofs.WriteLaws.{other_section}
use Rattle.apply.specs.Apply.{apply_number, applied_image}
use Rattle.crash_theorem.specs.Store.{put_all}
use Rattle.crash_theorem.specs.Change.{Change}
use Rattle.crash_theorem.specs.Events.{EventOf, apply, stray, crash, decided, start, run}
use Rattle.crash_theorem.specs.Obligations.{Obligations}
use Rattle.crash_theorem.specs.Plan.{by_row, Plan, behind_of, WellFormed, Recovers}
use Rattle.crash_theorem.proofs.Planned.{clear_settles, behind_all}
use Rattle.image_store.specs.Image.{Fits, is_valid, record_of, accepted, put_write}
use Rattle.image_store.proofs.ImageLaws.{read_of, first_ok, images}
use Rattle.image_store.specs.Buffers.{Buffers, enough}
use Rattle.image_store.proofs.BuffersLaws.{enough_is, is_enough, too_short}
use Rattle.image_store.proofs.JobLaws.{jobs}
use Rattle.image_store.specs.Recovery.{RecoveryJob, AnswersRows}
use Rattle.image_store.proofs.Operation.{rows_in, planned_change}
use Rattle.image_store.proofs.Safe.{planned_in_order, planned_owed, planned_recovers}
use Rattle.image_store.specs.JobRows.{plan_of}

-- one inode at 40, one entry at 72, the journal record at 104, and the end at 136
abbrev pub shape : Shape
shape = record { inodes = 1; entries = 1; texts = 0; handles = 0; width = 32 }

abbrev contents : List ℕ
contents =
    78 ∷ 79 ∷ 68 ∷ 69 ∷ 40 ∷ 0 ∷ 1 ∷ 0 ∷ 76 ∷ 73 ∷ 78 ∷ 75 ∷ 72 ∷ 0 ∷ 1 ∷ 0 ∷ 84 ∷ 69 ∷ 88 ∷ 84 ∷ 104 ∷ 0 ∷ 0 ∷ 0
    ∷ 72 ∷ 65 ∷ 78 ∷ 68 ∷ 104 ∷ 0 ∷ 0 ∷ 0 ∷ 78 ∷ 79 ∷ 84 ∷ 69 ∷ 104 ∷ 0 ∷ 1 ∷ 0 ∷ []

-- the image whose records are filled with these bytes
abbrev image_of : ℕ → ℕ → ℕ → List ℕ
image_of inode entry journal = contents ++ replicate 32 inode ++ replicate 32 entry ++ replicate 32 journal

abbrev pub image : List ℕ
image = image_of 0 0 0

image_read : Read image shape
unfolding layout_good name_is shape_of all number_at
image_read = read_of shape image refl refl

-- ---- the call: the journal record is set, the entry decides, the inode follows, the journal record is cleared

abbrev pub row : ℕ → Key → ℕ → Write
row group key byte = record { group = group; key = key; body = replicate 32 byte }

abbrev pub call : Plan (images shape image)
call = record {
  before = image;
  set = row 1 journal_key 1;
  decider = by_row [] (row 2 (entry_key 0) 5);
  rest = row 3 (inode_key 0) 7 ∷ [];
  clear = row 4 journal_key 0;
}

-- recovery, by whether the journal record is clear and whether the entry was written
abbrev pub rows_for : Bool → Bool → List Write
rows_for true on = []
rows_for false true = behind_of (images shape image) call
rows_for false false = call.clear ∷ []

abbrev pub found : List ℕ → List Write
found s = rows_for (eqb (get_or (record_of shape s journal_key) 0 0) 0) (eqb (get_or (record_of shape s (entry_key 0)) 0 0) 5)

abbrev pub recover : List ℕ → Option (List Write)
recover s = some (found s)

row_fits : (g : ℕ) (k : Key) (b : ℕ) → 1 ≤ g → g ≤ 4 → Valid shape k → coverable k.section ≡ true → 32 ≡ record_bytes shape k.section → Fits shape (row g k b)
row_fits g k b l m v a e = record { writes = record { first = l; last = m; valid = v; allowed = a; whole = e } }

pub call_formed : WellFormed (images shape image) call
unfolding record_of is_valid record_at part
call_formed = record {
  ok = first_ok shape image image_read;
  set_fits = row_fits 1 journal_key 1 (lit≤ tt) (lit≤ tt) (record { in_image = lit< tt; in_section = lit< tt }) refl refl;
  clear_fits = row_fits 4 journal_key 0 (lit≤ tt) (lit≤ tt) (record { in_image = lit< tt; in_section = lit< tt }) refl refl;
  fits = (
    row_fits 2 (entry_key 0) 5 (lit≤ tt) (lit≤ tt) (record { in_image = lit< tt; in_section = lit< tt }) refl refl,
    (row_fits 3 (inode_key 0) 7 (lit≤ tt) (lit≤ tt) (record { in_image = lit< tt; in_section = lit< tt }) refl refl, tt),
  );
  distinct = ((other_section (inode_key 0) (entry_key 0) (omega arith), tt), (tt, tt));
  apart = (other_section (entry_key 0) journal_key (omega arith), (other_section (inode_key 0) journal_key (omega arith), tt));
  clears = refl;
  restores = refl;
  created_groups = tt;
  decide_group = λ b. lit< tt;
  rest_groups = ((lit< tt, lit< tt), tt);
  clear_group_lem = lit< tt;
}

pub call_recovers : Recovers (images shape image) call recover
unfolding record_of is_valid record_at part put_write accepted is_fitting_row covers covers_section any store put
call_recovers = record {
  undo = call.clear ∷ [];
  undoes = (clear_settles call recover call_formed false, tt);
  undo_all = λ k. ⊎_elim (λ e. inl e) (λ n. absurd n);
  redo = behind_of (images shape image) call;
  redoes = behind_all call recover call_formed;
  redo_all = λ k c. c;
  at_before = refl;
  at_after = refl;
  back = λ X b i m. rw (m, ⊎_elim (λ n. absurd n) (λ e. e) (i.fixed (entry_key 0) (other_section (entry_key 0) journal_key (omega arith))));
  on = λ X i m. rw (
    m,
    ⊎_elim (⊎_elim (λ e. absurd (other_section (inode_key 0) (entry_key 0) (omega arith) e)) (λ n. absurd n)) (λ e. e)
        (i.fixed (entry_key 0) (other_section (entry_key 0) journal_key (omega arith))),
  );
}

-- ---- the recovery job: 205 and all as it was where a buffer is too short, else 0 and a plan of these rows

abbrev pub short : Buffers → List ℕ → Bool
short b s = ltb (length b.plan) plan_bytes || ltb (length b.scratch) (length s)

abbrev pub job : RecoveryJob
job = record {
  number = λ b s. cond (short b s) 205 0;
  plan = λ b s. cond (short b s) b.plan (plan_of shape b.plan (found s));
}

few : (s : List ℕ) → length (found s) ≤ plan_rows
few s = go (eqb (get_or (record_of shape s journal_key) 0 0) 0) (eqb (get_or (record_of shape s (entry_key 0)) 0 0) 5)
  where
    go : (clear on : Bool) → length (rows_for clear on) ≤ plan_rows
    go true on = lit≤ tt
    go false true = lit≤ tt
    go false false = lit≤ tt

long_enough : (b : Buffers) (s : List ℕ) → T (enough b s) → short b s ≡ false
long_enough b s t = let (l, m) = enough_is b s t in rw (le-ltb _ _ l, le-ltb _ _ m)

not_enough : (b : Buffers) (s : List ℕ) → T (not (enough b s)) → short b s ≡ true
not_enough b s t =
    ⊎_elim (λ (l : length b.plan < plan_bytes). rw (lt-ltb _ _ l))
    (λ (l : length b.scratch < length s). rw (lt-ltb _ _ l) (or-true (ltb (length b.plan) plan_bytes))) (too_short b s t)

pub job_answers : AnswersRows shape image recover job
job_answers = record {
  fills = λ b s o t ws e.
      let long = long_enough b s t in
      let same : found s ≡ ws = some-injective _ _ e in
      record {
        success = rw long;
        filled = rw (long, same);
        room = subst (λ (x : List Write). length x ≤ plan_rows) same (few s);
      };
  refuses = λ b s o t. let e = not_enough b s t in rw e (omega arith);
}

-- ---- the call as four jobs

-- the caller's buffer
abbrev pub buffer : List ℕ
buffer = replicate 648 0

abbrev pub bytes : List ℕ
bytes = plan_of shape buffer (rows_in shape image call)

abbrev pub job_call : Change (jobs shape image)
job_call = planned_change shape image call buffer job

-- every demand of the crash theorem is met, on bytes
pub call_owed : Obligations job_call
call_owed = planned_owed shape image call call_formed buffer (lit≤ tt) (lit≤ tt) recover call_recovers job job_answers

-- the plan applied as it stands, without a crash
pub call_applied : put_all (jobs shape image) image (jobs_in bytes) ≡ store_all shape image (row 2 (entry_key 0) 5 ∷ row 3 (inode_key 0) 7 ∷ [])
call_applied = planned_in_order shape image call call_formed buffer (lit≤ tt) (lit≤ tt) (
  (lit≤ tt, (lit≤ tt, (lit≤ tt, tt))),
  ((lit≤ tt, (lit≤ tt, tt)), ((lit≤ tt, tt), (tt, tt))),
)

-- ---- events

abbrev pub Happening : Type 0
Happening = EventOf (jobs shape image)

-- whatever happened, recovery answers 0 where its plan has room for a plan and its scratch for the image
pub always_answers : (es : List Happening) (b : Buffers) → plan_bytes ≤ length b.plan → length (run job_call (start job_call) es).img ≤ length b.scratch
    → job.number b (run job_call (start job_call) es).img ≡ 0
always_answers es b l m =
    planned_recovers shape image call call_formed buffer (lit≤ tt) (lit≤ tt) recover call_recovers job job_answers es b (is_enough b _ l m)

-- whether a recovery is done, whether the call is decided, for each waiting row how long its plan buffer is, and the image
abbrev pub seen : List Happening → Bool × Bool × List ℕ × List ℕ
seen es = let s = run job_call (start job_call) es in (s.done, decided job_call s, map (λ j. length j.plan) s.waiting, s.img)

-- row i of the plan, tried at any time
abbrev tried : ℕ → Happening
tried i = stray (record { plan = bytes; number = i })

-- a crash, with buffers of these lengths filled with a byte
abbrev crashed : ℕ → ℕ → ℕ → Happening
crashed plan scratch byte = crash (record { plan = replicate plan byte; scratch = replicate scratch byte })

-- the journal record was set, a number past the rows was refused, and then recovery too, for its plan and for its scratch: nothing waits,
-- and the image is as it was
abbrev pub refused : List Happening
refused = apply 0 ∷ tried 4 ∷ crashed 647 136 9 ∷ crashed 648 135 9 ∷ []

-- recovery with buffers that just suffice takes the call back
abbrev pub early : List Happening
early = refused ++ crashed 648 136 9 ∷ apply 0 ∷ []

-- a crash after the decision: recovery's rows wait in a buffer longer than a plan
abbrev pub late : List Happening
late = apply 0 ∷ apply 0 ∷ crashed 700 200 9 ∷ []

-- a second crash during that recovery, once it has written the inode; the second recovery has another buffer
abbrev pub during : List Happening
during = late ++ apply 0 ∷ crashed 650 136 3 ∷ []

-- a row out of turn, and then both rows
abbrev pub again : List Happening
again = during ++ apply 1 ∷ apply 0 ∷ apply 0 ∷ []

pub crashes : map seen (refused ∷ early ∷ late ∷ during ∷ again ∷ [])
    ≡ (false, false, [], image_of 0 0 1)
    ∷ (true, false, [], image_of 0 0 0)
    ∷ (false, true, 700 ∷ 700 ∷ [], image_of 0 5 1)
    ∷ (false, true, 650 ∷ 650 ∷ [], image_of 7 5 1)
    ∷ (true, true, [], image_of 7 5 0)
    ∷ []
unfolding record_of is_valid record_at part put zeros plan_of rows_put row_stored header_of row_at cleared count_of_rows no_row first bytes_of number_at applied_image apply_number applicable is_fitting_row covers covers_section any all layout_good name_is shape_of
crashes = refl
