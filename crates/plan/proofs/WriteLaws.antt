-- Laws of writes: their keys, and a plan filled with their rows. Assumes nothing.
use Rattle.std.specs.Prelude.{◌≡◌, ◌≢◌, List, [], ◌∷◌, ◌++◌, ℕ, ◌+◌, length}
use Rattle.std.proofs.Math.Path.{refl}
use Rattle.std.proofs.Common.{sym, ap, ap₂, ◌∙◌, length-append}
use Rattle.std.proofs.lemmas.List.{map-append, length-map}
use native.Mathlib.Omega.{arith}
use Rattle.layout.specs.declared.Shape.{Shape}
use Rattle.layout.specs.Place.{Key, place}
use Rattle.plan.specs.Form.{Row, row_of, row_stored, rows_put, cleared}
use Rattle.plan.proofs.Many.{rows_join}
use Rattle.plan.specs.Write.{Write, row_from, rows_from}
use Rattle.plan.specs.Filled.{AllWrites, Filled}

-- keys differ by their section, or by their index
pub other_section : (j k : Key) → j.section ≢ k.section → j ≢ k
other_section j k n e = n (ap (λ (x : Key). x.section) e)

pub other_index : (j k : Key) → j.index ≢ k.index → j ≢ k
other_index j k n e = n (ap (λ (x : Key). x.index) e)

pub writes_join : (h : Shape) (us ws : List Write) → AllWrites h us → AllWrites h ws → AllWrites h (us ++ ws)
writes_join h [] ws a b = b
writes_join h (u ∷ us) ws a b = (a.0, writes_join h us ws a.1 b)

-- writes as rows of a plan, for an image of shape h
module _ (h : Shape) where
  -- a row put at the record's place with the record's new bytes
  pub row_put : (w : Write) (p : List ℕ) (i : ℕ) {q : List ℕ} {at : ℕ} {b : List ℕ} → q ≡ row_stored p i (row_of w.group at b) → at ≡ place h w.key.section w.key.index
      → b ≡ w.body → q ≡ row_stored p i (row_from h w)
  row_put w p i e begins whole = e ∙ ap₂ (λ (a : ℕ) (b : List ℕ). row_stored p i (row_of w.group a b)) begins whole

  -- none, one, and some behind others
  pub filled_none : (p : List ℕ) (i : ℕ) → Filled h p i [] p i
  unfolding rows_put
  filled_none p i = record { plan = refl; next = omega arith }

  pub filled_one : (w : Write) {p q : List ℕ} {i : ℕ} → q ≡ row_stored p i (row_from h w) → Filled h p i (w ∷ []) q (i + 1)
  unfolding rows_put
  filled_one w e = record { plan = e; next = refl }

  rows_behind : (us ws : List Write) (plan : List ℕ) (i : ℕ)
      → rows_put plan i (rows_from h (us ++ ws)) ≡ rows_put (rows_put plan i (rows_from h us)) (i + length us) (rows_from h ws)
  rows_behind us ws plan i =
      ap (λ (rs : List Row). rows_put plan i rs) (map-append (row_from h) us ws) ∙ rows_join (rows_from h us) (rows_from h ws) plan i
      ∙ ap (λ (n : ℕ). rows_put (rows_put plan i (rows_from h us)) (i + n) (rows_from h ws)) (length-map us (row_from h))

  pub filled_join : {p q r : List ℕ} {i j k : ℕ} {us ws : List Write} → Filled h p i us q j → Filled h q j ws r k → Filled h p i (us ++ ws) r k
  filled_join {p} {q} {r} {i} {j} {k} {us} {ws} a b =
      let e : r ≡ rows_put (rows_put p i (rows_from h us)) (i + length us) (rows_from h ws) = b.plan ∙ rw (a.plan, a.next) in
      record { plan = e ∙ sym (rows_behind us ws p i); next = omega (arith, a.next, b.next, length-append us ws) }

  -- a cleared plan, filled
  pub plan_filled : (p : List ℕ) {z d : List ℕ} {n : ℕ} {ws : List Write} → z ≡ cleared p → Filled h z 0 ws d n
      → (d ≡ rows_put (cleared p) 0 (rows_from h ws)) × (n ≡ length ws)
  plan_filled p {ws = ws} e f = (f.plan ∙ ap (λ (x : List ℕ). rows_put x 0 (rows_from h ws)) e, omega (arith, f.next))
