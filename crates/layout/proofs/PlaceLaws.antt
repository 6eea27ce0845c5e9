-- Laws of places: records lie in the image, behind the table of contents, and do not overlap. Assumes nothing.
use Rattle.std.specs.Prelude.{◌≡◌, ◌⊎◌, ◌≢◌, ℕ, suc, ◌+◌, ◌*◌, ◌≤◌, ◌<◌}
use Rattle.std.proofs.Common.{inl, inr, le_refl, le_trans, mul-suc, mul-le-mul_left, arith}
use Rattle.std.proofs.Math.Decide.{dec_lt, le_ind}
use Rattle.layout.specs.declared.Shape.{Shape}
use Rattle.layout.specs.Limits.{contents_bytes}
use Rattle.layout.specs.Place.{Key, base, image_bytes, place, record_bytes, records}
use Rattle.layout.specs.Facts.{Valid}

-- a record ends where the next one begins at the latest
next_record : (h : Shape) (k i j : ℕ) → i < j → place h k i + record_bytes h k ≤ place h k j
next_record h k i j l =
    let m : record_bytes h k * suc i ≤ record_bytes h k * j = mul-le-mul_left (record_bytes h k) l in
    let e : record_bytes h k * suc i ≡ record_bytes h k * i + record_bytes h k = mul-suc (record_bytes h k) i in
    omega arith

base_mono : (h : Shape) (j k : ℕ) → j ≤ k → base h j ≤ base h k
base_mono h j k l = le_ind (λ (m : ℕ). base h j ≤ base h m) (le_refl (base h j)) (λ m l e. omega arith) k l

-- a record of an earlier section ends before a later section begins
earlier_section : (h : Shape) (j k i : ℕ) → j < k → i < records h j → place h j i + record_bytes h j ≤ base h k
earlier_section h j k i l b = le_trans (next_record h j i (records h j) b) (base_mono h (suc j) k l)

-- a record lies in the image
pub place_inside : (h : Shape) (k i : ℕ) → k < 5 → i < records h k → place h k i + record_bytes h k ≤ image_bytes h
place_inside h k i l b = earlier_section h k 5 i l b

-- a record lies behind the table of contents
pub behind_contents : (h : Shape) (k i : ℕ) → contents_bytes ≤ place h k i
behind_contents h k i = let m : base h 0 ≤ base h k = base_mono h 0 k (omega arith) in omega arith

data Order (a b : ℕ) : Type 0 where
  below : a < b → Order a b
  above : b < a → Order a b
  equal : a ≡ b → Order a b

order : (a b : ℕ) → Order a b
order a b = go (dec_lt a b) (dec_lt b a)
  where
    go : Dec (a < b) → Dec (b < a) → Order a b
    go (yes l) q = below l
    go (no l) (yes q) = above q
    go (no l) (no q) = equal (omega arith)

-- two different records do not overlap
pub apart : (h : Shape) (j k : Key) → Valid h j → Valid h k → j ≢ k
    → (place h j.section j.index + record_bytes h j.section ≤ place h k.section k.index)
    ⊎ (place h k.section k.index + record_bytes h k.section ≤ place h j.section j.index)
apart h j k u v differ = go (order j.section k.section) (order j.index k.index)
  where
    go : Order j.section k.section → Order j.index k.index
        → (place h j.section j.index + record_bytes h j.section ≤ place h k.section k.index)
        ⊎ (place h k.section k.index + record_bytes h k.section ≤ place h j.section j.index)
    go (below l) q = inl (let e = earlier_section h j.section k.section j.index l u.in_section in omega arith)
    go (above l) q = inr (let e = earlier_section h k.section j.section k.index l v.in_section in omega arith)
    go (equal e) (below l) = inl (rw e (next_record h k.section j.index k.index l))
    go (equal e) (above l) = inr (rw e (next_record h k.section k.index j.index l))
    go (equal e) (equal f) = absurd (differ (λ t. record { section = e t; index = f t }))
