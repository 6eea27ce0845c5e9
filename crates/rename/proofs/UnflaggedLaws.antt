-- A request without flags is answered as if there were none. Assumes nothing.
use Rattle.std.specs.Prelude.{◌≡◌, List, ℕ}
use Rattle.std.proofs.Math.Path.{ap}
use Rattle.paths.specs.declared.request.Request.{Request}
use Rattle.paths.specs.Flags.{flags_good}
use Rattle.refusals.specs.Answered.{Answer}
use Rattle.refusals.specs.Rules.{number_of, decide}
use Rattle.rename.specs.Order.{walks, early, order}
use Rattle.rename.specs.Job.{answer, rows_by, plan_by, count_by, renamed, plan_after}
use Rattle.rename.specs.Unflagged.{plain_early, plain_answer, Unflagged}

module _ (s plan : List ℕ) (q : Request) (old new : List ℕ) (none : q.flags ≡ 0) where
  same_early : decide (early s plan q old new) ≡ decide (plain_early s plan q old new)
  unfolding flags_good
  same_early = rw none

  same_answer : answer s plan q old new ≡ plain_answer s plan q old new
  unfolding flags_good order
  same_answer = rw none

  pub unflagged : Unflagged s plan q old new
  unfolding renamed plan_after
  unflagged =
      let rows = ap (rows_by s plan q old new) same_answer in
      let first = ap (λ (a : Answer). count_by s plan q old new a (walks s plan q old new).old.steps) same_early in
      let second = ap (λ (a : Answer). count_by s plan q old new a (walks s plan q old new).new.steps) same_early in
      record {
        answer = λ t. record { number = number_of (same_answer t); rows = rows t; old = first t; new = second t };
        buffer = ap (plan_by s plan q old new) same_answer;
      }
