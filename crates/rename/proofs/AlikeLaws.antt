-- A rename is answered by the caller's user and groups, however they are listed: callers who are alike get the same answer and the same plan. A list of none
-- is answered by the effective group alone. Assumes nothing.
use Rattle.std.specs.Prelude.{◌≡◌, not, cond, eqb, leb, length, get_or}
use Rattle.std.proofs.Math.Path.{refl, ap}
use Rattle.std.proofs.Common.{sym, ap₂, ◌∙◌}
use mathlib.Core.List.{List, ◌∷◌, ◌++◌}
use Prim.Native.Nat.{ℕ, zero, suc, ◌<◌}
use Rattle.layout.specs.Limits.{group_limit, step_limit}
use Rattle.layout.specs.Contents.{shape_of}
use Rattle.layout.specs.View.{View}
use Rattle.paths.specs.declared.request.Credentials.{Credentials}
use Rattle.paths.specs.declared.request.Request.{Request}
use Rattle.paths.specs.Request.{request_good}
use Rattle.paths.specs.Flags.{asks_exchange, flags_good}
use Rattle.paths.specs.Groups.{in_group}
use Rattle.paths.proofs.GroupLaws.{alone, further_same}
use Rattle.paths.specs.Permission.{search_bit, write_bit, allows}
use Rattle.component.specs.declared.state.Final.{Final}
use Rattle.component.specs.Step.{Position, End, Step, goes, ends, walk_step}
use Rattle.walk.specs.Start.{Start, Closed, At}
use Rattle.walk.specs.Walk.{start_of, start_at, walk_from, begun, walk}
use Rattle.walk.specs.Both.{Ends, old_final, new_final, walks_of}
use Rattle.refusals.specs.Answered.{Answer}
use Rattle.refusals.specs.Answered.{Refused, Same, Planned, Exchanged}
use Rattle.refusals.specs.Case.{sticky_denied}
use Rattle.refusals.specs.Rules.{number_of, Rule, refuse, decide}
use Rattle.rename_steps.specs.Steps.{steps}
use Rattle.exchange_steps.specs.Exchange.{exchange_steps}
use Rattle.recounts.specs.declared.Move.{Move}
use Rattle.exchanges.specs.Exchange.{exchange_rows, exchange_planned}
use Rattle.moves.specs.Plan.{move_of, exchange_of, rename_rows, planned}
use Rattle.rename.specs.Order.{directory_of, inode_of, name_of, case_of, flag_rules, case_rules, view, walks, early, late, order}
use Rattle.rename.specs.Job.{answer, move, exchange, called, rows_by, plan_by, count_by, renamed, plan_after}
use Rattle.rename.specs.Alike.{Alike, asked_by}

module _ (v : View) {a b : Credentials} (alike : Alike a b) where
  allows_alike : (i bit : ℕ) → allows v a i bit ≡ allows v b i bit
  unfolding allows
  allows_alike i bit = rw (alike.groups (v.group i), alike.user)

  step_alike : (last : Final) (w : Position) → walk_step v a last w ≡ walk_step v b last w
  unfolding walk_step
  step_alike last w = rw (allows_alike w.directory search_bit)

  from_alike : (last : Final) (n : ℕ) (w : Position) → walk_from v a last n w ≡ walk_from v b last n w
  unfolding walk_from
  from_alike last zero w = refl
  from_alike last (suc n) w = ap (next a) (step_alike last w) ∙ go (λ u. from_alike last n u) (walk_step v b last w)
    where
      next : Credentials → Step → End
      next who x = elim x [ goes u ↦ walk_from v who last n u | ends e ↦ e ]

      go : ((u : Position) → walk_from v a last n u ≡ walk_from v b last n u) → (x : Step) → next a x ≡ next b x
      go same (goes u) = same u
      go same (ends e) = refl

  begun_alike : (last : Final) (x : Start) (path : List ℕ) → begun v a last x path ≡ begun v b last x path
  begun_alike last Closed path = refl
  begun_alike last (At d waived) path = rw (from_alike last step_limit (start_at d waived path))

  walk_alike : (last : Final) (current start : ℕ) (path : List ℕ) → walk v a last current start path ≡ walk v b last current start path
  unfolding walk
  walk_alike last current start path = rw (begun_alike last (start_of v current start path) path)

-- a request, and one that is alike but for the list of its caller's groups
module _ (v : View) (q : Request) {b : Credentials} (alike : Alike q.who b) where
  request_alike : (old new : List ℕ) → request_good v q old new ≡ request_good v (asked_by q b) old new
  unfolding request_good
  request_alike old new = rw alike.listed

  walks_alike : (old new : List ℕ) → walks_of v q old new ≡ walks_of v (asked_by q b) old new
  unfolding walks_of
  walks_alike old new =
      rw (walk_alike v alike old_final q.current q.starts.old old, walk_alike v alike new_final q.current q.starts.new new)

  sticky_alike : (d i : ℕ) → sticky_denied v q.who d i ≡ sticky_denied v b d i
  unfolding sticky_denied
  sticky_alike d i = rw alike.user

  steps_alike : (e : Ends) → steps v (case_of v q e) ≡ steps v (case_of v (asked_by q b) e)
  steps_alike e =
      rw (
        allows_alike v alike (directory_of e.old.found) write_bit,
        allows_alike v alike (directory_of e.new.found) write_bit,
        allows_alike v alike (inode_of e.old.found) write_bit,
        sticky_alike (directory_of e.old.found) (inode_of e.old.found),
        sticky_alike (directory_of e.new.found) (inode_of e.new.found),
      )

  exchange_alike : (e : Ends) → exchange_steps v (case_of v q e) ≡ exchange_steps v (case_of v (asked_by q b) e)
  exchange_alike e =
      rw (
        allows_alike v alike (directory_of e.old.found) write_bit,
        allows_alike v alike (directory_of e.new.found) write_bit,
        allows_alike v alike (inode_of e.old.found) write_bit,
        allows_alike v alike (inode_of e.new.found) write_bit,
        sticky_alike (directory_of e.old.found) (inode_of e.old.found),
        sticky_alike (directory_of e.new.found) (inode_of e.new.found),
      )

  rules_alike : (e : Ends) → case_rules v q (case_of v q e) ≡ case_rules v (asked_by q b) (case_of v (asked_by q b) e)
  rules_alike e = ap₂ (λ (x y : List Rule). flag_rules q (case_of v q e) ++ cond (asks_exchange q) x y) (exchange_alike e) (steps_alike e)

  move_alike : (e : Ends) → move_of v (case_of v q e) q.now ≡ move_of v (case_of v (asked_by q b) e) q.now
  unfolding move_of
  move_alike e = refl

module _ (s plan : List ℕ) (q : Request) (old new : List ℕ) {b : Credentials} (alike : Alike q.who b) where
  abbrev v : View
  v = view s plan q old new

  abbrev p : Request
  p = asked_by q b

  same_walks : walks s plan q old new ≡ walks s plan p old new
  same_walks = walks_alike v q alike old new

  same_early : early s plan q old new ≡ early s plan p old new
  unfolding flags_good
  same_early = rw (request_alike v q alike old new)

  same_late : late s plan q old new ≡ late s plan p old new
  same_late = ap (by q) same_walks ∙ ap (behind (walks s plan p old new)) (rules_alike v q alike (walks s plan p old new))
    where
      behind : Ends → List Rule → List Rule
      behind e rules = refuse (not (eqb e.old.number 0)) e.old.number ∷ refuse (not (eqb e.new.number 0)) e.new.number ∷ rules

      by : Request → Ends → List Rule
      by r e = behind e (case_rules v r (case_of v r e))

  same_answer : answer s plan q old new ≡ answer s plan p old new
  unfolding order
  same_answer = ap decide (ap₂ ◌++◌ same_early same_late)

  same_move : move s plan q old new ≡ move s plan p old new
  same_move = ap (λ (e : Ends). move_of v (case_of v q e) q.now) same_walks ∙ move_alike v q alike (walks s plan p old new)

  same_exchange : exchange s plan q old new ≡ exchange s plan p old new
  same_exchange = ap (λ (e : Ends). exchange_of (case_of v q e) q.now) same_walks

  same_name : called s plan q old new ≡ called s plan p old new
  same_name = ap (λ (e : Ends). name_of e.new.found) same_walks

  same_rows : (x : Answer) → rows_by s plan q old new x ≡ rows_by s plan p old new x
  same_rows (Refused n) = refl
  same_rows Same = refl
  same_rows Planned = ap₂ (λ (m : Move) (name : List ℕ). length (rename_rows (shape_of s) s m name)) same_move same_name
  same_rows Exchanged = ap (λ (m : Move). length (exchange_rows (shape_of s) s m)) same_exchange

  same_plan : (x : Answer) → plan_by s plan q old new x ≡ plan_by s plan p old new x
  same_plan (Refused n) = refl
  same_plan Same = refl
  same_plan Planned = ap₂ (λ (m : Move) (name : List ℕ). planned (shape_of s) s m name plan) same_move same_name
  same_plan Exchanged = ap (λ (m : Move). exchange_planned (shape_of s) s m plan) same_exchange

  same_count : (x : Answer) (n : ℕ) → count_by s plan q old new x n ≡ count_by s plan p old new x n
  same_count (Refused m) n = refl
  same_count Same n = refl
  same_count Planned n = refl
  same_count Exchanged n = refl

  count_alike : (side : Ends → End)
      → count_by s plan q old new (decide (early s plan q old new)) (side (walks s plan q old new)).steps
      ≡ count_by s plan p old new (decide (early s plan p old new)) (side (walks s plan p old new)).steps
  count_alike side =
      ap₂ (λ (rules : List Rule) (e : Ends). count_by s plan q old new (decide rules) (side e).steps) same_early same_walks
      ∙ same_count (decide (early s plan p old new)) (side (walks s plan p old new)).steps

  -- the number, the rows and both counts are the same
  pub renamed_alike : renamed s plan q old new ≡ renamed s plan p old new
  unfolding renamed
  renamed_alike =
      let rows = ap (rows_by s plan q old new) same_answer ∙ same_rows (answer s plan p old new) in
      let first = count_alike (λ e. e.old) in
      let second = count_alike (λ e. e.new) in
      λ t. record { number = number_of (same_answer t); rows = rows t; old = first t; new = second t }

  -- and so is the plan buffer
  pub plan_alike : plan_after s plan q old new ≡ plan_after s plan p old new
  unfolding plan_after
  plan_alike = ap (plan_by s plan q old new) same_answer ∙ same_plan (answer s plan p old new)

-- callers of one user and group whose lists agree below the count are alike, whatever the places past it hold
pub listed_alike : (a b : Credentials) → a.user ≡ b.user → a.group ≡ b.group → a.count ≡ b.count
    → ((k : ℕ) → k < a.count → get_or a.groups k 0 ≡ get_or b.groups k 0) → Alike a b
unfolding in_group
listed_alike a b user group count same = record {
  user = user;
  groups = λ g. rw (further_same a b count same g, group);
  listed = ap (λ (n : ℕ). leb n group_limit) count;
}

-- a caller without further groups is in the effective one alone, whatever the places of the list hold
pub none_alike : (a b : Credentials) → a.user ≡ b.user → a.group ≡ b.group → a.count ≡ 0 → b.count ≡ 0 → Alike a b
none_alike a b user group e f = record {
  user = user;
  groups = λ g. alone a g e ∙ ap (λ (n : ℕ). eqb n g) group ∙ sym (alone b g f);
  listed = ap (λ (n : ℕ). leb n group_limit) (e ∙ sym f);
}
