-- From the code's walks to the job's answer: refused by a walk, or answered by what the steps make of the case. Assumes nothing.
use Rattle.std.specs.Prelude.{◌≡◌, ◌≢◌, false, List, ℕ, ◌+◌, ◌≤◌, length, Ok, Err}
use Rattle.std.proofs.Common.{sym, ap, ◌∙◌, subst}
use Rattle.std.proofs.lemmas.Bool.{eqb-false}
use Rattle.layout.specs.declared.Shape.{Shape}
use Rattle.layout.specs.declared.errno.Errno.{Errno}
use Rattle.layout.specs.Code.{number, code}
use Rattle.layout.proofs.CodeLaws.{refusal_numbered}
use Rattle.layout.specs.Limits.{absent}
use Rattle.layout.specs.Facts.{Readable}
use Rattle.layout.specs.Contents.{shape_of}
use Rattle.layout.specs.View.{View, view_of}
use Rattle.consistency.proofs.ConsistentLaws.{check_read}
use Rattle.consistency.proofs.FactLaws.{checked_readable}
use Rattle.paths.specs.declared.request.Request.{Request}
use Rattle.walk.specs.declared.both.Walks.{Walks}
use Rattle.walk.specs.Both.{Ends, walks_of}
use Rattle.component.specs.declared.state.Found.{Found}
use Rattle.component.specs.State.{finding_of}
use Rattle.walk.specs.Answer.{end_of, found_in, BothAnswered}
use Rattle.refusals.specs.Answered.{Answer}
use Rattle.refusals.specs.Answered.{Refused, Same, Planned, Exchanged}
use Rattle.refusals.specs.declared.case.Case.{Case}
use Rattle.rename_steps.specs.Tests.{no_slot}
use Rattle.refusals.specs.CaseIn.{CaseIn}
use Rattle.refusals.specs.Rules.{decide}
use Rattle.rename_steps.proofs.PassedLaws.{planned_passed}
use Rattle.exchange_steps.specs.ExchangePassedLaws.{exchange_passed}
use Rattle.plan.specs.Form.{cleared}
use Rattle.plan.specs.Write.{Write}
use Rattle.results.specs.InImage.{InImage}
use Rattle.exchanges.specs.Exchange.{exchange_rows, exchange_planned}
use Rattle.exchanges.specs.InImage.{BothInImage}
use Rattle.moves.specs.Plan.{move_of, exchange_of, rename_rows, planned}
use Rattle.rename.specs.Renamed.{Renamed}
use Rattle.rename.specs.Order.{name_of, case_of, case_rules}
use Rattle.rename.proofs.FlagLaws.{planned_steps, exchanged_steps}
use Rattle.rename.specs.Answers.{RenameAnswers, both_ends_of, WalksBegin}
use Rattle.rename.proofs.Outs.{answers_as, walked_old, answers_walk, answers_case}
use Rattle.rename.proofs.Known.{case_in, called_fits, move_in, exchange_in}

module _ {s plan : List ℕ} {q : Request} {old new : List ℕ} {h : Shape} (given : WalksBegin s plan q old new h) where
  abbrev v : View
  v = view_of h s

  pub image_readable : Readable h s
  image_readable = checked_readable s h given.read (check_read s h given.read ∙ given.fine)

  module _ {w : Walks} (both : BothAnswered v w (walks_of v q old new)) where
    same_ends : both_ends_of w ≡ walks_of v q old new
    same_ends = λ t. record { old = both.old.is t; new = both.new.is t }

    -- the job's answer with the counts of these walks
    abbrev answer : ℕ → ℕ → Renamed
    answer number rows = record { number = number; rows = rows; old = w.old.steps; new = w.new.steps }

    pub refused_walk : (why : Errno) → w.new.found ≡ Err why → RenameAnswers s plan q old new (answer (number why) 0) plan
    refused_walk why is =
        let k : code w.new.found ≡ number why = ap code is in
        let e = ap (λ (x : Ends). x.new.number) same_ends in
        answers_as (answers_walk s plan q old new given.long h given.read given.fine given.good given.flags (λ z. refusal_numbered why (sym k ∙ e ∙ z)))
        (λ t. record { number = (sym k ∙ e) t; rows = 0; old = (same_ends t).old.steps; new = (same_ends t).new.steps })

    -- where new's walk has found something, old's has
    pub old_found : code w.new.found ≡ 0 → code w.old.found ≡ 0
    old_found none =
        ap (λ (x : Ends). x.old.number) same_ends
        ∙ walked_old v q old new (sym (ap (λ (x : Ends). x.new.number) same_ends) ∙ none)

    module _ (none : code w.new.found ≡ 0) {c : Case} (is : c ≡ case_of v q (both_ends_of w)) where
      new_whole : (walks_of v q old new).new.number ≡ 0
      new_whole = sym (ap (λ (x : Ends). x.new.number) same_ends) ∙ none

      old_whole : code w.old.found ≡ 0
      old_whole = old_found none

      pub walked_case : CaseIn v c
      walked_case = subst (CaseIn v) (sym is) (case_in h s image_readable q (both_ends_of w) both.old.facts both.new.facts old_whole none)

      -- what the steps make of it
      module _ {a : Answer} (judged : a ≡ decide (case_rules v q c)) where
        decided : a ≡ decide (case_rules v q (case_of v q (walks_of v q old new)))
        decided = judged ∙ ap (λ (x : Case). decide (case_rules v q x)) (is ∙ ap (λ (x : Ends). case_of v q x) same_ends)

        pub steps_refuse : (n : ℕ) → a ≡ Refused n → RenameAnswers s plan q old new (answer n 0) plan
        steps_refuse n e =
            answers_as (answers_case s plan q old new given.long h given.read given.fine given.good given.flags new_whole (Refused n) (sym e ∙ decided))
            (λ t. record { number = n; rows = 0; old = (same_ends t).old.steps; new = (same_ends t).new.steps })

        pub case_same : a ≡ Same → (after : List ℕ) → after ≡ cleared plan → RenameAnswers s plan q old new (answer 0 0) after
        case_same e after f =
            subst (λ (x : List ℕ). RenameAnswers s plan q old new (answer 0 0) x) (sym f)
            (answers_as (answers_case s plan q old new given.long h given.read given.fine given.good given.flags new_whole Same (sym e ∙ decided))
            (λ t. record { number = 0; rows = 0; old = (same_ends t).old.steps; new = (same_ends t).new.steps }))

        module _ (e : a ≡ Planned) where
          pub walked_move : InImage h (move_of v c q.now)
          walked_move =
              let slot = (planned_passed v c (planned_steps v q c (sym judged ∙ e))).slot in
              subst (λ (x : Case). InImage h (move_of v x q.now)) (sym is)
              (move_in h s image_readable q (both_ends_of w) both.old.facts both.new.facts old_whole none q.now
              (subst (λ (x : Case). no_slot v x ≡ false) is slot))

          pub planned_name : 8 + length (name_of (end_of w.new).found) ≤ h.width
          planned_name = called_fits h s image_readable q (both_ends_of w) both.old.facts both.new.facts old_whole none

          -- the name that the plan is made under, of what new's walk has found
          module _ {to : Found} (new_is : w.new.found ≡ Ok to) where
            named : name_of (end_of w.new).found ≡ name_of (finding_of w.new.path to)
            named = ap (λ f. name_of (found_in w.new.path f)) new_is

            pub found_name : 8 + length (name_of (finding_of w.new.path to)) ≤ h.width
            found_name = subst (λ x. 8 + length x ≤ h.width) named planned_name

          -- the rows, of the ends that the walks have
          abbrev rows_in : Shape → Ends → List Write
          rows_in x y = rename_rows x s (move_of (view_of x s) (case_of (view_of x s) q y) q.now) (name_of y.new.found)

          abbrev plan_in : Shape → Ends → List ℕ
          plan_in x y = planned x s (move_of (view_of x s) (case_of (view_of x s) q y) q.now) (name_of y.new.found) plan

          pub steps_plan : (after : List ℕ) (n : ℕ)
              → (after ≡ planned h s (move_of v c q.now) (name_of (end_of w.new).found) plan)
              × (n ≡ length (rename_rows h s (move_of v c q.now) (name_of (end_of w.new).found)))
              → RenameAnswers s plan q old new (answer 0 n) after
          steps_plan after n (filled, counted) =
              let f : after ≡ plan_in (shape_of s) (walks_of (view_of (shape_of s) s) q old new) =
              filled ∙ ap (λ (x : Case). planned h s (move_of v x q.now) (name_of (end_of w.new).found) plan) is ∙ ap (λ (y : Ends). plan_in h y) same_ends
              ∙ ap (λ (x : Shape). plan_in x (walks_of (view_of x s) q old new)) given.read.shape in
              let k : n ≡ length (rows_in (shape_of s) (walks_of (view_of (shape_of s) s) q old new)) =
              counted ∙ ap (λ (x : Case). length (rename_rows h s (move_of v x q.now) (name_of (end_of w.new).found))) is ∙ ap (λ (y : Ends). length (rows_in h y)) same_ends
              ∙ ap (λ (x : Shape). length (rows_in x (walks_of (view_of x s) q old new))) given.read.shape in
              subst (λ (x : List ℕ). RenameAnswers s plan q old new (answer 0 n) x) (sym f)
              (answers_as (answers_case s plan q old new given.long h given.read given.fine given.good given.flags new_whole Planned (sym e ∙ decided))
              (λ t. record { number = 0; rows = k t; old = (same_ends t).old.steps; new = (same_ends t).new.steps }))

          pub steps_planned : {to : Found} → w.new.found ≡ Ok to → (after : List ℕ) (n : ℕ)
              → (after ≡ planned h s (move_of v c q.now) (name_of (finding_of w.new.path to)) plan)
              × (n ≡ length (rename_rows h s (move_of v c q.now) (name_of (finding_of w.new.path to))))
              → RenameAnswers s plan q old new (answer 0 n) after
          steps_planned new_is after n made =
              steps_plan after n (subst (λ x. (after ≡ planned h s (move_of v c q.now) x plan) × (n ≡ length (rename_rows h s (move_of v c q.now) x))) (sym (named new_is)) made)

        module _ (e : a ≡ Exchanged) where
          pub walked_exchange : BothInImage h (exchange_of c q.now)
          walked_exchange =
              let (passed, some, _) = exchanged_steps v q c (sym judged ∙ e) in
              let other = eqb-false _ _ (exchange_passed v c passed).other in
              subst (λ (x : Case). x.replaced ≢ absent → x.moved ≢ x.replaced → BothInImage h (exchange_of x q.now)) (sym is)
              (exchange_in h s image_readable q (both_ends_of w) both.old.facts both.new.facts old_whole none q.now) some other

          abbrev exchange_rows_in : Shape → Ends → List Write
          exchange_rows_in x y = exchange_rows x s (exchange_of (case_of (view_of x s) q y) q.now)

          abbrev exchange_plan_in : Shape → Ends → List ℕ
          exchange_plan_in x y = exchange_planned x s (exchange_of (case_of (view_of x s) q y) q.now) plan

          pub steps_exchange : (after : List ℕ) (n : ℕ)
              → (after ≡ exchange_planned h s (exchange_of c q.now) plan) × (n ≡ length (exchange_rows h s (exchange_of c q.now)))
              → RenameAnswers s plan q old new (answer 0 n) after
          steps_exchange after n (filled, counted) =
              let f : after ≡ exchange_plan_in (shape_of s) (walks_of (view_of (shape_of s) s) q old new) =
              filled ∙ ap (λ (x : Case). exchange_planned h s (exchange_of x q.now) plan) is ∙ ap (λ (y : Ends). exchange_plan_in h y) same_ends
              ∙ ap (λ (x : Shape). exchange_plan_in x (walks_of (view_of x s) q old new)) given.read.shape in
              let k : n ≡ length (exchange_rows_in (shape_of s) (walks_of (view_of (shape_of s) s) q old new)) =
              counted ∙ ap (λ (x : Case). length (exchange_rows h s (exchange_of x q.now))) is ∙ ap (λ (y : Ends). length (exchange_rows_in h y)) same_ends
              ∙ ap (λ (x : Shape). length (exchange_rows_in x (walks_of (view_of x s) q old new))) given.read.shape in
              subst (λ (x : List ℕ). RenameAnswers s plan q old new (answer 0 n) x) (sym f)
              (answers_as (answers_case s plan q old new given.long h given.read given.fine given.good given.flags new_whole Exchanged (sym e ∙ decided))
              (λ t. record { number = 0; rows = k t; old = (same_ends t).old.steps; new = (same_ends t).new.steps }))
