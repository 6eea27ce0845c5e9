-- What is read back from an entry that was made or given another target. Assumes nothing.
use Rattle.std.specs.Prelude.{◌≡◌, refl, true, List, ◌++◌, ℕ, suc, ◌+◌, ◌-◌, ◌≤◌, ◌<◌, get_or, set, replicate}
use Rattle.std.proofs.Common.{sym, ap, ◌∙◌, inl, inr, length-append}
use native.Mathlib.Omega.{arith}
use Rattle.std.proofs.Math.ListN.{length, get_or-replicate}
use Rattle.std.proofs.lemmas.List.{length-replicate}
use Rattle.std.proofs.Math.Seq.{take-append_seam, get_or-append-add}
use borrow.Author.Tests.{eq-eqb}
use Rattle.seq.specs.Search.{all}
use Rattle.seq.specs.Bytes.{part, put, zeros}
use Rattle.seq.specs.Number.{number_at, bytes_of}
use Rattle.seq.proofs.SearchLaws.{all_of}
use Rattle.seq.proofs.BytesLaws.{part_length, put_length, put_after, put_part_other, zeros_put_other, put_zeros_join}
use Rattle.seq.proofs.NumberLaws.{bytes_of_length, number_put, number_put_other}
use Rattle.layout.specs.Fields.{entry_parent, entry_target, entry_name_length, entry_name}
use Rattle.encode.specs.Facts.{Names}
use Rattle.encode.specs.Entry.{entry_bytes, entry_head, retargeted}

-- its bytes put over zeros
pub entry_put : (width parent target : ℕ) (name : List ℕ) → 8 + length name ≤ width
    → put (put (replicate width 0) 0 (entry_head parent target (length name))) 8 name ≡ entry_bytes width parent target name
unfolding entry_bytes bytes_of
entry_put width parent target name fits = put_zeros_join width (entry_head parent target (length name)) name fits

-- and the same, number by number
pub entry_written : (width parent target : ℕ) (name : List ℕ) → 8 + length name ≤ width
    → put (set (put (put (replicate width 0) 0 (bytes_of 2 parent)) 2 (bytes_of 2 target)) 4 (length name)) 8 name ≡ entry_bytes width parent target name
unfolding put bytes_of
entry_written width parent target name fits = ap (λ l. put l 8 name) head ∙ entry_put width parent target name fits
  where
    over : (m : ℕ) → set (put (put (replicate (8 + m) 0) 0 (bytes_of 2 parent)) 2 (bytes_of 2 target)) 4 (length name)
        ≡ put (replicate (8 + m) 0) 0 (entry_head parent target (length name))
    over m = let e : 8 + m ≡ suc (suc (suc (suc (suc (suc (suc (suc m))))))) = omega arith in rw e

    head : set (put (put (replicate width 0) 0 (bytes_of 2 parent)) 2 (bytes_of 2 target)) 4 (length name)
        ≡ put (replicate width 0) 0 (entry_head parent target (length name))
    head = let e : 8 + (width - 8) ≡ width = omega arith in rw e at (over (width - 8))

-- an entry as it stands, if its zeros are in order
pub names_itself : (r : List ℕ) (width : ℕ) → length r ≡ width → 8 + entry_name_length r ≤ width → zeros r 5 3 ≡ true
    → zeros r (8 + entry_name_length r) (width - 8 - entry_name_length r) ≡ true → Names r width (entry_parent r) (entry_target r) (entry_name r)
names_itself r width long fits padded filled =
    let e : entry_name_length r ≡ length (entry_name r) = sym (part_length r 8 (entry_name_length r) (omega arith)) in
    record { long = long; fits = omega arith; parent = refl; target = refl; name_length_lem = e; name = refl; padded = padded; filled = rw e at filled }

-- an entry is read back
module _ (width p t : ℕ) (n : List ℕ) (fits : 8 + length n ≤ width) where
  abbrev behind : List ℕ
  behind = replicate (width - 8 - length n) 0

  made_long : length (entry_bytes width p t n) ≡ width
  unfolding entry_bytes bytes_of
  made_long = simp (length-append, length-replicate) (omega arith)

  made_name : part (entry_bytes width p t n) 8 (length n) ≡ n
  unfolding entry_bytes bytes_of part
  made_name = take-append_seam n _

  -- each byte behind the name
  made_zero : (k : ℕ) → k < width - 8 - length n → get_or (entry_bytes width p t n) (8 + length n + k) 0 ≡ 0
  unfolding entry_bytes bytes_of
  made_zero k l =
      let e : 8 + length n + k ≡ 8 + (length n + k) = omega arith in
      rw e (get_or-append-add (entry_head p t (length n)) (n ++ behind) (length n + k) 0 ∙ get_or-append-add n behind k 0
      ∙ get_or-replicate (width - 8 - length n) k 0 0 l)

  pub entry_names : p < 65536 → t < 65536 → Names (entry_bytes width p t n) width p t n
  unfolding entry_bytes bytes_of number_at zeros all
  entry_names sp st = record {
    long = made_long;
    fits = fits;
    parent = omega arith;
    target = omega arith;
    name_length_lem = refl;
    name = made_name;
    padded = refl;
    filled = all_of _ _ (λ k l. eq-eqb _ _ (made_zero k l));
  }

-- with another target, all the rest is as before
pub names_target : {x : List ℕ} {width p t : ℕ} {n : List ℕ} → Names x width p t n → (v : ℕ) → v < 65536 → Names (retargeted v x) width p v n
names_target {x} {width} {p} {t} {n} names v small =
    let l = bytes_of_length 2 v in
    let same_length = put_after (bytes_of 2 v) x 2 4 (omega arith) in
    record {
      long = put_length x 2 _ ∙ names.long;
      fits = names.fits;
      parent = number_put_other 2 x 2 _ 0 (inl (omega arith)) ∙ names.parent;
      target = number_put 2 x 2 v (omega (arith, names.long, names.fits)) small;
      name_length_lem = same_length ∙ names.name_length_lem;
      name = ap (λ (k : ℕ). part (put x 2 (bytes_of 2 v)) 8 k) same_length ∙ put_part_other x 2 _ 8 _ (inr (omega arith)) ∙ names.name;
      padded = zeros_put_other x 2 _ 5 3 (inr (omega arith)) ∙ names.padded;
      filled = zeros_put_other x 2 _ (8 + length n) _ (inr (omega arith)) ∙ names.filled;
    }
