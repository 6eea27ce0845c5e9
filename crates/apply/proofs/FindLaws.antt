-- How the record that a row covers is found: by division within a section, section by section. Assumes nothing.
use Rattle.std.specs.Prelude.{◌≡◌, refl, Bool, true, false, ◌&&◌, ◌||◌, List, ℕ, zero, suc, ◌+◌, ◌-◌, ◌*◌, ◌/◌, ◌%◌, ◌≤◌, ◌<◌, eqb, leb}
use Rattle.std.proofs.Math.Path.{ap}
use Rattle.std.proofs.Common.{◌∙◌, mul-le-mul, add-one, arith}
use Rattle.std.proofs.Math.Nat.{add-sub_cancel_left, mul-mod_right, mul-div_right, div-add-mod}
use Rattle.std.proofs.Math.Dec.{ltb}
use Rattle.std.proofs.Math.Decide.{ℕ_discrete, dec_le}
use borrow.Author.Tests.{eq-eqb, eqb-true, ne_eqb, le-leb, lt-leb, lt-ltb, ltb-true}
use Rattle.seq.specs.Search.{any}
use Rattle.seq.specs.Truth.{refuted, and_left, and_right, and_both, same_truth}
use Rattle.seq.proofs.SearchLaws.{any_hit, any_at}
use Rattle.layout.specs.declared.Shape.{Shape}
use Rattle.layout.specs.Limits.{widest_entry, entry_limit}
use Rattle.layout.specs.Place.{record_bytes, records, base, image_bytes}
use Rattle.layout.specs.Facts.{Laid}
use Rattle.plan.specs.Fit.{coverable, covers_record, covers_section, covers}
use Rattle.apply.specs.Find.{one_of, Bounded}

-- the ways out of finding it
module _ (start width count at n : ℕ) where
  found : one_of start width count at n ≡ true → (i : ℕ) × (i < count) × (at ≡ start + width * i) × (n ≡ width)
  unfolding one_of
  found e =
      let (i, l, f) = any_at _ count e in
      (i, l, eqb-true _ _ (and_left (eqb at (start + width * i)) _ f), eqb-true _ _ (and_right (eqb at (start + width * i)) _ f))

  pub one_size : (n ≡ width → ⊥) → one_of start width count at n ≡ false
  one_size ne = refuted _ (λ e. ne (found e).3)

  pub one_before : at < start → one_of start width count at n ≡ false
  one_before l = refuted _ (λ e. let p = (found e).2 in omega arith)

  distance : (i : ℕ) → at ≡ start + width * i → at - start ≡ width * i
  distance i p = rw p (add-sub_cancel_left start (width * i))

  pub one_between : (((at - start) % width) ≡ 0 → ⊥) → one_of start width count at n ≡ false
  one_between ne =
      refuted _ (λ e. let (i, l, p, q) = found e in ne (ap (λ (d : ℕ). d % width) (distance i p) ∙ mul-mod_right width i))

  pub one_index : 0 < width → n ≡ width → start ≤ at → (at - start) % width ≡ 0 → one_of start width count at n ≡ ltb ((at - start) / width) count
  unfolding one_of
  one_index some size behind even = same_truth _ _ there back
    where
      there : one_of start width count at n ≡ true → ltb ((at - start) / width) count ≡ true
      there e =
          let (i, l, p, q) = found e in
          let z : (at - start) / width ≡ i = ap (λ (d : ℕ). d / width) (distance i p) ∙ mul-div_right i some in
          lt-ltb ((at - start) / width) count (rw z l)

      back : ltb ((at - start) / width) count ≡ true → one_of start width count at n ≡ true
      back e =
          let z = div-add-mod (at - start) width in
          let p : at ≡ start + width * ((at - start) / width) = omega arith in
          any_hit _ count ((at - start) / width) (ltb-true _ _ e) (and_both (eqb at _) _ (eq-eqb _ _ p) (eq-eqb _ _ size))

  -- all of it as one test
  pub one_is : 1 ≤ width → one_of start width count at n ≡ (eqb n width && leb start at && eqb ((at - start) % width) 0 && ltb ((at - start) / width) count)
  one_is some = go (ℕ_discrete n width) (dec_le start at) (ℕ_discrete ((at - start) % width) 0)
    where
      go : Dec (n ≡ width) → Dec (start ≤ at) → Dec ((at - start) % width ≡ 0)
          → one_of start width count at n ≡ (eqb n width && leb start at && eqb ((at - start) % width) 0 && ltb ((at - start) / width) count)
      go (no m) b c = rw (one_size m, ne_eqb _ _ m)
      go (yes p) (no m) c = let l : at < start = omega arith in rw (one_before l, eq-eqb _ _ p, lt-leb _ _ l)
      go (yes p) (yes q) (no m) = rw (one_between m, eq-eqb _ _ p, le-leb _ _ q, ne_eqb _ _ m)
      go (yes p) (yes q) (yes r) = rw (one_index some p q r, eq-eqb _ _ p, le-leb _ _ q, eq-eqb _ _ r)

laid_image : (h : Shape) (s : List ℕ) → Laid h s → image_bytes h ≤ 131072
laid_image h s l =
    let p : h.width * h.entries ≤ widest_entry * entry_limit = mul-le-mul l.width_most l.entries_most in
    omega (arith, l.inodes_most, l.texts_most, l.handles_most)

pub laid_bounded : (h : Shape) (s : List ℕ) → Laid h s → Bounded h
laid_bounded h s l = record { width_least = omega (arith, l.width_least); image_most = laid_image h s l }

-- each section ends in the image
section_ends : (h : Shape) (k : ℕ) → k < 5 → base h k + record_bytes h k * records h k ≤ image_bytes h
section_ends h zero l = omega arith
section_ends h (suc zero) l = omega arith
section_ends h (suc (suc zero)) l = omega arith
section_ends h (suc (suc (suc zero))) l = omega arith
section_ends h (suc (suc (suc (suc zero)))) l = omega arith
section_ends h (suc (suc (suc (suc (suc k))))) l = absurd (omega arith)

-- one turn of the search through the sections, where start, width and count are section k's
module _ (h : Shape) (k start width count : ℕ) (a : start ≡ base h k) (b : width ≡ record_bytes h k) (c : count ≡ records h k) where
  pub section_is : (at n : ℕ) → (coverable k && one_of start width count at n) ≡ covers_section h at n k
  unfolding one_of covers_section
  section_is at n = rw (a, b, c)

  pub section_next : start + width * count ≡ base h (k + 1)
  section_next = rw (a, b, c, add-one)

  pub section_room : Bounded h → k < 5 → start + width * count ≤ 131072
  section_room bounded l = rw (a, b, c) (let e = section_ends h k l in omega (arith, bounded.image_most))

-- the last section, and the sections that are not the handles'
pub bytes_last : (h : Shape) (k : ℕ) → 4 ≤ k → record_bytes h k ≡ 32
bytes_last h zero l = absurd (omega arith)
bytes_last h (suc zero) l = absurd (omega arith)
bytes_last h (suc (suc zero)) l = absurd (omega arith)
bytes_last h (suc (suc (suc zero))) l = absurd (omega arith)
bytes_last h (suc (suc (suc (suc k)))) l = refl

pub records_last : (h : Shape) (k : ℕ) → 4 ≤ k → records h k ≡ 1
records_last h zero l = absurd (omega arith)
records_last h (suc zero) l = absurd (omega arith)
records_last h (suc (suc zero)) l = absurd (omega arith)
records_last h (suc (suc (suc zero))) l = absurd (omega arith)
records_last h (suc (suc (suc (suc k)))) l = refl

pub coverable_else : (k : ℕ) → (k ≡ 3 → ⊥) → coverable k ≡ true
coverable_else zero ne = refl
coverable_else (suc zero) ne = refl
coverable_else (suc (suc zero)) ne = refl
coverable_else (suc (suc (suc zero))) ne = absurd (ne refl)
coverable_else (suc (suc (suc (suc k)))) ne = refl

-- the sections, one after another
pub covers_is : (h : Shape) (at n : ℕ) → covers h at n
    ≡ (one_of 40 32 h.inodes at n || one_of (40 + 32 * h.inodes) h.width h.entries at n || one_of (40 + 32 * h.inodes + h.width * h.entries) 64 h.texts at n
    || one_of (40 + 32 * h.inodes + h.width * h.entries + 64 * h.texts + 8 * h.handles) 32 1 at n)
unfolding covers covers_section one_of any
covers_is h at n = no_handles (any (covers_record h at n 0) h.inodes || any (covers_record h at n 1) h.entries || any (covers_record h at n 2) h.texts) _
  where
    no_handles : (a b : Bool) → ((a || false) || b) ≡ (a || b)
    no_handles true b = refl
    no_handles false b = refl
