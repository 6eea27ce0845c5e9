-- A small store and two calls that meet every demand: a created record, and a journal record that decides. Assumes nothing.
use Rattle.std.specs.Prelude.{◌≡◌, refl, ◌≢◌, Bool, true, false, not, cond, List, [], ◌∷◌, ℕ, T, eqb, ltb, leb}
use Rattle.std.proofs.Math.Path.{fun_ext}
use Rattle.std.proofs.Common.{inl, inr, ⊎_elim, arith, eqb→eq}
use Rattle.std.proofs.Math.Option.{Option, some}
use Rattle.std.proofs.Math.Decide.{ℕ_discrete}
use Rattle.std.proofs.Math.Dec.{eqb_refl}
use Rattle.crash_theorem.specs.Store.{Store, Rows}
use Rattle.crash_theorem.specs.Events.{EventOf, apply, crash}
use Rattle.crash_theorem.specs.Obligations.{Obligations}
use Rattle.crash_theorem.specs.Plan.{by_row, by_journal_lem, Plan, after_of, behind_of, lending, change, WellFormed, Recovers}
use Rattle.crash_theorem.proofs.Planned.{clear_settles, behind_all, journaled}
use Rattle.crash_theorem.specs.Queue.{end, call, Queue, play, decisions}
use Rattle.crash_theorem.proofs.ChainLaws.{queue}

-- ---- the store: four numbers, of which the first is the journal record; recovery is lent a buffer for so many rows, and wants three

pub record Write : Type 0 where
  pub group : ℕ
  pub key : ℕ
  pub body : ℕ

abbrev pub write : ℕ → ℕ → ℕ → Write
write g k b = record { group = g; key = k; body = b }

abbrev pub inside : Write → Bool
inside r = ltb r.key 4

abbrev pub written : Bool → (ℕ → ℕ) → Write → ℕ → ℕ
written true X r k = cond (eqb k r.key) r.body (X k)
written false X r k = X k

pub refused : (b : Bool) (X : ℕ → ℕ) (r : Write) → T (not b) → written b X r ≡ X
refused true X r t = absurd t
refused false X r t = refl

pub at_key : (b : Bool) (X : ℕ → ℕ) (r : Write) → T b → written b X r r.key ≡ r.body
at_key true X r t = go (eqb r.key r.key) (eqb_refl r.key)
  where
    go : (b : Bool) → T b → cond b r.body (X r.key) ≡ r.body
    go true t = refl
    go false t = absurd t
at_key false X r t = absurd t

pub off_key : (b : Bool) (X : ℕ → ℕ) (r : Write) (j : ℕ) → j ≢ r.key → written b X r j ≡ X j
off_key true X r j n = go (eqb j r.key) (eqb→eq j r.key)
  where
    go : (b : Bool) → (T b → j ≡ r.key) → cond b r.body (X j) ≡ X j
    go true e = absurd (n (e tt))
    go false e = refl
off_key false X r j n = refl

abbrev pub toy : Store
toy = record {
  Img = ℕ → ℕ;
  Key = ℕ;
  Body = ℕ;
  Row = Write;
  Lent = ℕ;
  enough = λ room X. leb 3 room;
  group = λ r. r.group;
  key = λ r. r.key;
  body = λ r. r.body;
  get = λ X k. X k;
  put = λ X r. written (inside r) X r;
  accepts = λ X r. inside r;
  Ok = λ X. Unit {0};
  Fits = λ r. T (inside r);
  same = ℕ_discrete;
  takes = λ {X} {r} o f. f;
  refuses = λ X r t. refused (inside r) X r t;
  put_ok = λ {X} {r} o f. tt;
  get_same = λ {X} {r} o f. at_key (inside r) X r f;
  get_other = λ {X} {r} o f j n. off_key (inside r) X r j n;
  ext = λ {X} {Y} o p e. fun_ext e;
}

-- ---- the calls: the first creates record 1, decides by record 2 and then writes record 3; the second exchanges records 1 and 3

abbrev pub first : Plan toy
first = record {
  before = λ k. 0;
  set = write 1 0 1;
  decider = by_row (write 2 1 7 ∷ []) (write 3 2 1);
  rest = write 4 3 9 ∷ [];
  clear = write 5 0 0;
}

abbrev pub second : Plan toy
second = record {
  before = after_of toy first;
  set = write 1 0 2;
  decider = by_journal_lem;
  rest = write 2 1 9 ∷ write 2 3 7 ∷ [];
  clear = write 3 0 0;
}

-- recovery, by whether the journal record is clear, whose it is, and whether the first call is decided
abbrev pub answer : Bool → Bool → Bool → Option (Rows toy)
answer true mine on = some []
answer false true true = some (behind_of toy first)
answer false true false = some (write 4 1 0 ∷ first.clear ∷ [])
answer false false on = some (behind_of toy second)

abbrev pub recover : (ℕ → ℕ) → Option (Rows toy)
recover X = answer (eqb (X 0) 0) (eqb (X 0) 1) (eqb (X 2) 1)

pub first_formed : WellFormed toy first
first_formed = record {
  ok = tt;
  set_fits = tt;
  clear_fits = tt;
  fits = (tt, (tt, (tt, tt)));
  distinct = omega arith;
  apart = omega arith;
  clears = refl;
  restores = refl;
  created_groups = omega arith;
  decide_group = omega arith;
  rest_groups = omega arith;
  clear_group_lem = omega arith;
}

pub second_formed : WellFormed toy second
second_formed = record {
  ok = tt;
  set_fits = tt;
  clear_fits = tt;
  fits = (tt, (tt, tt));
  distinct = omega arith;
  apart = omega arith;
  clears = refl;
  restores = refl;
  created_groups = tt;
  decide_group = λ b. absurd b;
  rest_groups = omega arith;
  clear_group_lem = omega arith;
}

pub first_recovers : Recovers toy first recover
first_recovers = record {
  undo = write 4 1 0 ∷ first.clear ∷ [];
  undoes = (
    record { fits = tt; aims = refl; kind = inr (record { elsewhere = omega arith; earlier = omega arith; unsure = inl refl }) },
    (clear_settles first recover first_formed false, tt),
  );
  undo_all = λ k. ⊎_elim (λ e. inr (inl e)) (⊎_elim (λ e. inl e) (λ n. absurd n));
  redo = behind_of toy first;
  redoes = behind_all first recover first_formed;
  redo_all = λ k c. c;
  at_before = refl;
  at_after = refl;
  back = λ X b i m. rw (m, ⊎_elim (⊎_elim (λ e. absurd (omega arith)) (λ n. absurd n)) (λ e. e) (i.fixed 2 (omega arith)));
  on = λ X i m. rw (m, ⊎_elim (⊎_elim (λ e. absurd (omega arith)) (λ n. absurd n)) (λ e. e) (i.fixed 2 (omega arith)));
}

pub second_recovers : Recovers toy second recover
second_recovers = record {
  undo = [];
  undoes = tt;
  undo_all = λ k c. c;
  redo = behind_of toy second;
  redoes = behind_all second recover second_formed;
  redo_all = λ k c. c;
  at_before = refl;
  at_after = refl;
  back = λ X b i m. absurd b;
  on = λ X i m. rw m;
}

-- ---- both calls in a queue

pub first_owed : Obligations (change toy first recover)
first_owed = journaled first recover first_formed first_recovers

pub second_owed : Obligations (change toy second recover)
second_owed = journaled second recover second_formed second_recovers

abbrev pub played : List (EventOf toy) → Queue toy (lending toy recover)
played es = play (queue (change toy first recover) first_owed refl (call (change toy second recover) second_owed refl refl end)) es

-- whether a recovery is done, how many deciding rows were applied, and the four records
abbrev pub seen : List (EventOf toy) → Bool × ℕ × ℕ × ℕ × ℕ × ℕ
seen es = let q = played es in (q.state.done, decisions q, q.state.img 0, q.state.img 1, q.state.img 2, q.state.img 3)

-- a crash before the decision: record 1 was created, a row was out of turn, one recovery was refused, and the next takes record 1 back
pub crash_early : seen (apply 0 ∷ apply 0 ∷ apply 1 ∷ crash 2 ∷ crash 3 ∷ apply 1 ∷ apply 0 ∷ apply 0 ∷ []) ≡ (true, 0, 0, 0, 0, 0)
crash_early = refl

-- a crash after it: recovery writes record 3
pub crash_late : seen (apply 0 ∷ apply 0 ∷ apply 0 ∷ crash 9 ∷ apply 0 ∷ apply 0 ∷ []) ≡ (true, 1, 0, 7, 1, 9)
crash_late = refl

-- a crash in the second call, which its journal record had decided, half way through the exchange
pub crash_second : seen (apply 0 ∷ apply 0 ∷ apply 0 ∷ apply 0 ∷ apply 0 ∷ apply 0 ∷ apply 1 ∷ crash 3 ∷ apply 1 ∷ apply 0 ∷ apply 0 ∷ [])
    ≡ (true, 2, 0, 9, 1, 7)
crash_second = refl

-- no crash: all rows in a permitted order
pub no_crash : seen (apply 0 ∷ apply 0 ∷ apply 0 ∷ apply 0 ∷ apply 0 ∷ apply 0 ∷ apply 1 ∷ apply 0 ∷ apply 0 ∷ []) ≡ (false, 2, 0, 9, 1, 7)
no_crash = refl
