-- What applying a row does to an image: it stores one record, or changes nothing. Assumes nothing.
use Rattle.std.specs.Prelude.{◌≡◌, refl, ◌≢◌, Bool, true, false, cond, ℕ, ◌≤◌, ◌<◌, eqb, ltb, length}
use Rattle.std.proofs.Common.{sym, ◌∙◌, subst, arith, eq-eqb, eqb-true, ne_eqb, le-ltb, ltb-false}
use Rattle.std.proofs.Math.Path.{ap}
use mathlib.Core.List.{List}
use Rattle.std.proofs.lemmas.Bool.{eqb-false}
use Rattle.seq.proofs.BytesLaws.{part_length}
use Rattle.layout.specs.declared.Shape.{Shape}
use Rattle.layout.specs.Errno.{short_buffer, inconsistent, bad_row}
use Rattle.layout.specs.Place.{Key, record_bytes, place}
use Rattle.layout.specs.Facts.{Valid}
use Rattle.layout.specs.Contents.{layout_good, shape_of}
use Rattle.layout.proofs.ContentsLaws.{good_laid}
use Rattle.layout.specs.Record.{record_at, store}
use Rattle.layout.proofs.RecordLaws.{store_length, store_same, store_other}
use Rattle.layout.proofs.Commute.{store_shape, store_layout, store_swap}
use Rattle.plan.specs.Form.{Row, plan_rows, plan_bytes, body_at, row_length, row_offset, row_at}
use Rattle.plan.specs.Fit.{applicable, row_for}
use Rattle.plan.specs.FitFacts.{Covered, Writes}
use Rattle.plan.proofs.FitLaws.{applicable_is, is_applicable, applicable_fits, stands_applicable, written_fits}
use Rattle.plan.specs.Stands.{Stands}
use Rattle.apply.specs.Apply.{apply_number, applied, applied_image}
use Rattle.apply.specs.OneRow.{Applies, applied_key, applied_body}

pub applies_zero : (image plan : List ℕ) (i : ℕ) → Applies image plan i → apply_number image plan i ≡ 0
unfolding apply_number
applies_zero image plan i a = rw (le-ltb _ _ a.long, a.layout, is_applicable _ _ _ a.row)

pub zero_applies : (image plan : List ℕ) (i : ℕ) → apply_number image plan i ≡ 0 → Applies image plan i
unfolding apply_number
zero_applies image plan i e = go (ltb (length plan) plan_bytes) (layout_good image) (applicable (shape_of image) plan i) refl refl refl e
  where
    go : (a b c : Bool) → ltb (length plan) plan_bytes ≡ a → layout_good image ≡ b → applicable (shape_of image) plan i ≡ c
        → cond a short_buffer (cond b (cond c 0 bad_row) inconsistent) ≡ 0 → Applies image plan i
    go true b c ea eb ec z = absurd (omega arith)
    go false false c ea eb ec z = absurd (omega arith)
    go false true false ea eb ec z = absurd (omega arith)
    go false true true ea eb ec z = record { long = ltb-false _ _ ea; layout = eb; row = applicable_is _ _ _ ec }

-- a refusal changes nothing
pub refused_same : (image plan : List ℕ) (i : ℕ) → (apply_number image plan i ≡ 0 → ⊥) → applied_image image plan i ≡ image
unfolding applied_image
refused_same image plan i ne = rw (ne_eqb _ _ ne)

-- images of one shape give one verdict
pub same_verdict : (s t plan : List ℕ) (i : ℕ) → layout_good s ≡ layout_good t → shape_of s ≡ shape_of t → apply_number s plan i ≡ apply_number t plan i
unfolding apply_number
same_verdict s t plan i a b = rw (a, b)

-- the job done
pub applied_done : (image plan : List ℕ) (i : ℕ) → Applies image plan i → applied_image image plan i ≡ applied image (row_at plan i)
unfolding applied_image
applied_done image plan i a = rw (eq-eqb _ _ (applies_zero image plan i a))

-- a row is a store of the record it covers
pub applied_store : (h : Shape) (s : List ℕ) (r : Row) (c : Covered h r.offset r.bytes) → applied s r ≡ store h s c.key r.body
unfolding store
applied_store h s r c = rw c.begins

module _ (image plan : List ℕ) (i : ℕ) (a : Applies image plan i) where
  pub body_whole : length (applied_body image plan i a) ≡ record_bytes (shape_of image) (applied_key image plan i a).section
  unfolding row_at
  body_whole =
      let f = applicable_fits (shape_of image) image plan i (good_laid image a.layout) a.row in
      part_length plan (body_at i) (row_length plan i) (omega (arith, f.0, a.long, a.row.below)) ∙ a.row.covered.whole

  pub applied_is : applied_image image plan i ≡ store (shape_of image) image (applied_key image plan i a) (applied_body image plan i a)
  unfolding row_at
  applied_is = applied_done image plan i a ∙ applied_store (shape_of image) image (row_at plan i) a.row.covered

  -- so the record is read back, and every other is untouched
  pub applied_same : record_at (shape_of image) (applied_image image plan i) (applied_key image plan i a).section (applied_key image plan i a).index ≡ applied_body image plan i a
  applied_same =
      ap (λ (s : List ℕ). record_at (shape_of image) s (applied_key image plan i a).section (applied_key image plan i a).index) applied_is
      ∙ store_same (shape_of image) image (applied_body image plan i a) (applied_key image plan i a) (good_laid image a.layout).long a.row.covered.valid body_whole

  pub applied_other : (j : Key) → Valid (shape_of image) j → j ≢ applied_key image plan i a
      → record_at (shape_of image) (applied_image image plan i) j.section j.index ≡ record_at (shape_of image) image j.section j.index
  applied_other j valid differ =
      ap (λ (s : List ℕ). record_at (shape_of image) s j.section j.index) applied_is
      ∙ store_other (shape_of image) image (applied_body image plan i a) (applied_key image plan i a) (good_laid image a.layout).long a.row.covered.valid body_whole j valid differ

-- a row that an operation wrote, and that stands in a plan, is applied as the store it is meant to be
module _ (image plan : List ℕ) (i group : ℕ) (k : Key) (body : List ℕ) (long : plan_bytes ≤ length plan) (good : layout_good image ≡ true) (below : i < plan_rows)
    (w : Writes (shape_of image) group k body) (stands : Stands plan i (row_for (shape_of image) group k body)) where
  pub written_applies : Applies image plan i
  written_applies = record {
    long = long;
    layout = good;
    row = applicable_is _ _ _ (stands_applicable (shape_of image) plan i _ below stands ∙ written_fits (shape_of image) group k body w);
  }

  pub written_stores : applied_image image plan i ≡ store (shape_of image) image k body
  unfolding store
  written_stores = applied_done image plan i written_applies ∙ ap (λ (r : Row). applied image r) stands.row

-- whatever the plan and the number, the length, the layout and the shape stay, and so does the verdict on every row
module _ (image plan : List ℕ) (i : ℕ) where
  either : (P : List ℕ → Type 0) → P image → ((a : Applies image plan i) → P (store (shape_of image) image (applied_key image plan i a) (applied_body image plan i a))) → P (applied_image image plan i)
  either P stays stores = go (eqb (apply_number image plan i) 0) refl
    where
      go : (b : Bool) → eqb (apply_number image plan i) 0 ≡ b → P (applied_image image plan i)
      go true e = let a = zero_applies image plan i (eqb-true _ _ e) in subst P (sym (applied_is image plan i a)) (stores a)
      go false e = subst P (sym (refused_same image plan i (eqb-false _ _ e))) stays

  pub applied_length : length (applied_image image plan i) ≡ length image
  applied_length = either (λ s. length s ≡ length image) refl (λ a. store_length (shape_of image) image _ _ (good_laid image a.layout).long a.row.covered.valid (body_whole image plan i a))

  pub applied_shape : shape_of (applied_image image plan i) ≡ shape_of image
  applied_shape = either (λ s. shape_of s ≡ shape_of image) refl (λ a. store_shape (shape_of image) image _ _)

  pub applied_layout : layout_good (applied_image image plan i) ≡ layout_good image
  applied_layout = either (λ s. layout_good s ≡ layout_good image) refl (λ a. store_layout (shape_of image) image _ _)

  pub verdict_stays : (other : List ℕ) (j : ℕ) → apply_number (applied_image image plan i) other j ≡ apply_number image other j
  verdict_stays other j = same_verdict _ _ other j applied_layout applied_shape

-- rows of different records, from one plan or two, may be applied in either order
module _ (image p q : List ℕ) (i j : ℕ) (a : Applies image p i) (b : Applies image q j) (differ : row_offset p i ≢ row_offset q j) where
  still : (plan other : List ℕ) (n m : ℕ) → Applies image other m → Applies (applied_image image plan n) other m
  still plan other n m x = zero_applies _ other m (verdict_stays image plan n other m ∙ applies_zero image other m x)

  after : (plan other : List ℕ) (n m : ℕ) (x : Applies image plan n) (y : Applies image other m)
      → applied_image (applied_image image plan n) other m ≡ store (shape_of image) (store (shape_of image) image (applied_key image plan n x) (applied_body image plan n x)) (applied_key image other m y) (applied_body image other m y)
  unfolding row_at
  after plan other n m x y =
      applied_done (applied_image image plan n) other m (still plan other n m y)
      ∙ applied_store (shape_of image) (applied_image image plan n) (row_at other m) y.row.covered
      ∙ ap (λ (s : List ℕ). store (shape_of image) s (applied_key image other m y) (applied_body image other m y)) (applied_is image plan n x)

  keys_differ : applied_key image p i a ≢ applied_key image q j b
  keys_differ e =
      differ (a.row.covered.begins ∙ ap (λ (k : Key). place (shape_of image) k.section k.index) e ∙ sym b.row.covered.begins)

  pub rows_commute : applied_image (applied_image image p i) q j ≡ applied_image (applied_image image q j) p i
  rows_commute =
      after p q i j a b
      ∙ store_swap (shape_of image) image _ _ (good_laid image a.layout).long a.row.covered.valid (body_whole image p i a) _ _ b.row.covered.valid (body_whole image q j b) keys_differ
      ∙ sym (after q p j i b a)
