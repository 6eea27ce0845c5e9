-- Rows applied one after another are the stores that they were written for. Assumes nothing.
use Rattle.std.specs.Prelude.{◌≡◌, length, get_or}
use Rattle.std.proofs.Math.Path.{refl, ap}
use Rattle.std.proofs.Common.{sym, ◌∙◌, subst}
use mathlib.Core.List.{List, [], ◌∷◌}
use Prim.Native.Nat.{ℕ, suc, ◌+◌, ◌-◌, ◌≤◌, ◌<◌}
use Rattle.std.proofs.Math.Nat.{add-zero}
use native.Mathlib.Omega.{arith}
use Rattle.std.proofs.lemmas.List.{length-map}
use Rattle.seq.proofs.BytesLaws.{put_length}
use Rattle.layout.specs.declared.Shape.{Shape}
use Rattle.layout.specs.Place.{Key, place}
use Rattle.layout.specs.Facts.{Laid, Read}
use Rattle.layout.proofs.ContentsLaws.{good_laid}
use Rattle.layout.specs.Record.{store}
use Rattle.layout.proofs.Commute.{store_shape, store_layout}
use Rattle.plan.specs.Form.{Row, plan_rows, plan_bytes, rows_put}
use Rattle.plan.proofs.Many.{rows_length, rows_stand}
use Rattle.plan.specs.FitFacts.{Writes}
use Rattle.plan.proofs.FitLaws.{written_formed}
use Rattle.plan.specs.Write.{Write, store_all, row_from, rows_from}
use Rattle.plan.specs.Filled.{AllWrites}
use Rattle.plan.specs.Stands.{RowFormed, Stands, Each}
use Rattle.apply.specs.Apply.{applied_image}
use Rattle.apply.proofs.Laws.{written_stores}
use Rattle.recover.specs.Outcome.{applied_from}

-- the loop that applies them: its beginning, a turn, and its end
pub applied_first : (image plan : List ℕ) (n : ℕ) → applied_from image plan 0 (n - 0) ≡ applied_from image plan 0 n
applied_first image plan n =
    let e : n - 0 ≡ n = omega arith in
    rw e

pub applied_turn : (image plan : List ℕ) (i n : ℕ) → i < n → applied_from image plan i (n - i) ≡ applied_from (applied_image image plan i) plan (i + 1) (n - (i + 1))
unfolding applied_from
applied_turn image plan i n l =
    let e : n - i ≡ suc (n - (i + 1)) = omega arith in
    rw e

pub applied_end : (image plan : List ℕ) (i n : ℕ) → n ≤ i → applied_from image plan i (n - i) ≡ image
unfolding applied_from
applied_end image plan i n l =
    let e : n - i ≡ 0 = omega arith in
    rw e

-- ---- rows that were written as an operation's are

module _ (h : Shape) where
  -- stores keep the length
  pub stored_length : (ws : List Write) (x : List ℕ) → length (store_all h x ws) ≡ length x
  unfolding store
  stored_length [] x = refl
  stored_length (w ∷ ws) x = stored_length ws (store h x w.key w.body) ∙ put_length x (place h w.key.section w.key.index) w.body

  -- and the layout
  stored_read : (x : List ℕ) (k : Key) (body : List ℕ) → Read x h → Read (store h x k body) h
  stored_read x k body read =
      let good = store_layout h x k body ∙ read.good in
      let shape = read.shape ∙ sym (store_shape h x k body) in
      record { good = good; shape = shape; laid = subst (λ (g : Shape). Laid g (store h x k body)) (sym shape) (good_laid _ good) }

  pub rows_formed : (x : List ℕ) → Read x h → (ws : List Write) → AllWrites h ws → Each RowFormed (rows_from h ws)
  rows_formed x read [] a = tt
  rows_formed x read (w ∷ ws) a =
      (written_formed h x read.laid w.group w.key w.body a.0, rows_formed x read ws a.1)

  module _ (plan : List ℕ) (long : plan_bytes ≤ length plan) where
    -- one that stands in the plan
    row_applied : (x : List ℕ) (i : ℕ) (w : Write) → Read x h → i < plan_rows → Writes h w.group w.key w.body → Stands plan i (row_from h w)
        → applied_image x plan i ≡ store h x w.key w.body
    row_applied x i w read below writes stands =
        subst (λ (g : Shape). Writes g w.group w.key w.body → Stands plan i (row_from g w) → applied_image x plan i ≡ store g x w.key w.body)
        (sym read.shape) (λ a b. written_stores x plan i w.group w.key w.body long read.good below a b) writes stands

    -- and all that do
    standing_applied : (d : Row) (ws : List Write) (x : List ℕ) (i : ℕ) → Read x h → i + length ws ≤ plan_rows → AllWrites h ws
        → ((k : ℕ) → k < length ws → Stands plan (i + k) (get_or (rows_from h ws) k d)) → applied_from x plan i (length ws) ≡ store_all h x ws
    unfolding applied_from
    standing_applied d [] x i read room a stands = refl
    standing_applied d (w ∷ ws) x i read room a stands =
        ap (λ (y : List ℕ). applied_from y plan (i + 1) (length ws))
        (row_applied x i w read (omega arith) a.0 (rw add-zero at (stands 0 (omega arith))))
        ∙ standing_applied d ws (store h x w.key w.body) (i + 1) (stored_read x w.key w.body read) (omega arith) a.1 (λ k l.
        let e : i + 1 + k ≡ i + suc k = omega arith in
        rw e (stands (suc k) (omega arith)))

  -- so the rows of a plan, applied, are stores
  pub rows_applied : (p : List ℕ) → plan_bytes ≤ length p → (ws : List Write) → length ws ≤ plan_rows → AllWrites h ws → (x : List ℕ) → Read x h
      → applied_from x (rows_put p 0 (rows_from h ws)) 0 (length ws) ≡ store_all h x ws
  rows_applied p long ws room a x read =
      let d : Row = record { group = 0; offset = 0; bytes = 0; body = [] } in
      let n : length (rows_from h ws) ≡ length ws = length-map ws _ in
      standing_applied (rows_put p 0 (rows_from h ws)) (omega (arith, rows_length (rows_from h ws) p 0)) d ws x 0 read (omega arith) a (λ k l.
      rows_stand d (rows_from h ws) p 0 long (omega arith) (rows_formed x read ws a) k (omega arith))
