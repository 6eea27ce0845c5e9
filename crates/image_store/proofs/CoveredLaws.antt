-- A row covers only one record: the one found. Assumes nothing.
use Rattle.std.specs.Prelude.{◌≡◌, refl, Bool, true, false, ◌||◌, cond, ℕ, zero, suc, ◌≤◌, ◌<◌, eqb}
use Rattle.std.proofs.Common.{sym, ◌∙◌, ⊎_elim, le_refl, arith, eqb-true}
use Rattle.std.proofs.lemmas.Bool.{false≢true}
use Rattle.seq.specs.Search.{any, first}
use Rattle.seq.specs.Truth.{and_left, and_right}
use Rattle.layout.specs.declared.Shape.{Shape}
use Rattle.layout.specs.Place.{Key, records, place}
use Rattle.layout.specs.Facts.{Valid}
use Rattle.layout.proofs.PlaceLaws.{apart}
use Rattle.plan.specs.Fit.{coverable, covers_record, covers_section, covers}
use Rattle.plan.specs.FitFacts.{Covered}
use Rattle.plan.proofs.FitLaws.{one_covers, record_some}
use Rattle.image_store.proofs.ImageLaws.{same_key}
use Rattle.image_store.specs.Covered.{key_at}

-- the first number that passes is one that does
pub first_found : (p : ℕ → Bool) (n : ℕ) → any p n ≡ true → (first p n < n) × (p (first p n) ≡ true)
unfolding any first
first_found p zero e = absurd (false≢true e)
first_found p (suc n) e = go (λ e. first_found p n e) (any p n) (p n) refl refl e
  where
    go : (any p n ≡ true → (first p n < n) × (p (first p n) ≡ true)) → (a b : Bool) → any p n ≡ a → p n ≡ b → (a || b) ≡ true
        → (cond a (first p n) (cond b n (suc n)) < suc n) × (p (cond a (first p n) (cond b n (suc n))) ≡ true)
    go r true b ea eb h = let (l, e) = r ea in (omega arith, e)
    go r false true ea eb h = (le_refl (suc n), eb)
    go r false false ea eb h = absurd (false≢true h)

-- records that begin in one place are one record
pub one_place : (h : Shape) → 1 ≤ h.width → (j k : Key) → Valid h j → Valid h k → place h j.section j.index ≡ place h k.section k.index → j ≡ k
one_place h some j k u v e = go (same_key j k)
  where
    go : Dec (j ≡ k) → j ≡ k
    go (yes s) = s
    go (no n) =
        let a = record_some h some j.section in
        let b = record_some h some k.section in
        absurd (⊎_elim (λ l. omega arith) (λ l. omega arith) (apart h j k u v n))

-- it is found where there is one
pub key_covered : (h : Shape) (at n : ℕ) → Covered h at n → Valid h (key_at h at n) × (coverable (key_at h at n).section ≡ true) × (at ≡ place h (key_at h at n).section (key_at h at n).index)
unfolding key_at covers_section covers
key_covered h at n c =
    let k = first (covers_section h at n) 5 in
    let (l, f) = first_found (covers_section h at n) 5 (one_covers h at n c) in
    let (m, g) = first_found (covers_record h at n k) (records h k) (and_right (coverable k) _ f) in
    (record { in_image = l; in_section = m }, and_left (coverable k) _ f, eqb-true _ _ (and_left (eqb at _) _ g))

-- and is the one
pub key_is : (h : Shape) → 1 ≤ h.width → (at n : ℕ) (c : Covered h at n) → key_at h at n ≡ c.key
key_is h some at n c =
    let (v, a, e) = key_covered h at n c in
    one_place h some (key_at h at n) c.key v c.valid (sym e ∙ c.begins)
