-- A name's room, looked at byte by byte, is right where the name is plain and zeros follow it. Assumes nothing.
use Rattle.std.specs.Prelude.{◌≡◌, refl, Bool, true, ◌&&◌, ◌||◌, List, ℕ, ◌+◌, ◌-◌, ◌≤◌, ◌<◌, length, get_or}
use Rattle.std.proofs.Common.{sym, ◌∙◌, add-one, eqb-true, ne_eqb, lt-ltb, le-ltb}
use Rattle.std.proofs.Math.Path.{ap}
use Rattle.std.proofs.Math.Bool.{false, not}
use Rattle.std.specs.Bool.{beq}
use Rattle.std.proofs.Math.Decide.{dec_lt}
use native.Mathlib.Omega.{arith}
use Rattle.std.proofs.Math.Dec.{eqb}
use Rattle.std.proofs.lemmas.Bool.{not-true}
use Rattle.seq.specs.Bytes.{part, zeros}
use Rattle.seq.proofs.BytesLaws.{part_byte, part_length}
use Rattle.seq.proofs.ZeroLaws.{zeros_split}
use Rattle.seq.specs.Letters.{solidus}
use Rattle.seq.specs.Search.{any}
use Rattle.seq.proofs.SearchLaws.{any_not, any_false, all_at, all_of}
use Rattle.seq.specs.Truth.{one_truth, and_left, and_right, and_both}
use Rattle.layout.specs.Limits.{name_offset}
use Rattle.names.specs.Name.{name_byte, plain_name}
use Rattle.names.specs.NameTests.{front_bytes, front_wrong, front_good, name_spelled}

-- one more byte looked at
pub any_tells : (p : ℕ → Bool) (k : ℕ) (wrong a b : Bool) → wrong ≡ any p k → (a || b) ≡ p k → ((wrong || a) || b) ≡ any p (k + 1)
unfolding any
any_tells p k wrong a b e f = rw add-one (or_moved wrong a b ∙ ap (λ x. wrong || x) f ∙ ap (λ x. x || p k) e)
  where
    or_moved : (x y z : Bool) → ((x || y) || z) ≡ (x || (y || z))
    or_moved true y z = refl
    or_moved false y z = refl

-- what is wrong with a byte of the name, and with one behind it
inside : (slash zero : Bool) → (slash || not (beq (not zero) true)) ≡ not (not zero && not slash)
inside true true = refl
inside true false = refl
inside false true = refl
inside false false = refl

behind : (slash zero : Bool) → (zero ≡ true → slash ≡ false) → (slash || not (beq (not zero) false)) ≡ not zero
behind slash true f = rw (f refl)
behind true false f = refl
behind false false f = refl

module _ (e : List ℕ) (n : ℕ) (long : 32 ≤ length e) (short : n ≤ front_bytes) where
  wrong_inside : (k : ℕ) → k < n → front_wrong e n k ≡ not (name_byte (get_or e (name_offset + k) 0))
  wrong_inside k l = rw (lt-ltb k n l) (inside (eqb (get_or e (name_offset + k) 0) solidus) (eqb (get_or e (name_offset + k) 0) 0))

  wrong_behind : (k : ℕ) → n ≤ k → front_wrong e n k ≡ not (eqb (get_or e (name_offset + k) 0) 0)
  wrong_behind k l =
      rw (le-ltb k n l)
      (behind (eqb (get_or e (name_offset + k) 0) solidus) (eqb (get_or e (name_offset + k) 0) 0) (λ z.
      ne_eqb (get_or e (name_offset + k) 0) solidus (λ o. let q = eqb-true (get_or e (name_offset + k) 0) 0 z in omega arith)))

  not_wrong : (b : Bool) {w : Bool} → w ≡ not b → w ≡ false → b ≡ true
  not_wrong true e f = refl
  not_wrong false e f = sym f ∙ e

  name_byte_lem : (k : ℕ) → k < n → name_byte (get_or (part e name_offset n) k 0) ≡ name_byte (get_or e (name_offset + k) 0)
  name_byte_lem k l = ap name_byte (part_byte e name_offset n k l)

  to : front_good e n ≡ true → (plain_name (part e name_offset n) && zeros e (name_offset + n) (front_bytes - n)) ≡ true
  unfolding front_good plain_name zeros
  to g =
      let none = any_not (front_wrong e n) front_bytes (not-true _ g) in
      and_both _ _
      (all_of _ _ (λ k l.
      let b : k < n = rw (part_length e name_offset n (omega arith)) at l in
      name_byte_lem k b ∙ not_wrong _ (wrong_inside k b) (none k (omega arith))))
      (all_of _ _ (λ k l.
      let o : name_offset + n + k ≡ name_offset + (n + k) = omega arith in
      rw o (not_wrong _ (wrong_behind (n + k) (omega arith)) (none (n + k) (omega arith)))))

  from : (plain_name (part e name_offset n) && zeros e (name_offset + n) (front_bytes - n)) ≡ true → front_good e n ≡ true
  unfolding front_good plain_name zeros
  from g = rw (any_false (front_wrong e n) front_bytes (λ k l. go k l (dec_lt k n)))
    where
      go : (k : ℕ) → k < front_bytes → Dec (k < n) → front_wrong e n k ≡ false
      go k l (yes b) =
          let q = all_at (λ m. name_byte (get_or (part e name_offset n) m 0)) (length (part e name_offset n)) (and_left (plain_name (part e name_offset n)) _ g) k (rw (part_length e name_offset n (omega arith)) b) in
          wrong_inside k b ∙ ap not (sym (name_byte_lem k b) ∙ q)
      go k l (no b) =
          let q = all_at (λ m. eqb (get_or e (name_offset + n + m) 0) 0) (front_bytes - n) (and_right (plain_name (part e name_offset n)) _ g) (k - n) (omega arith) in
          let o : name_offset + n + (k - n) ≡ name_offset + k = omega arith in
          wrong_behind k (omega arith) ∙ ap not (rw o at q)

  front_plain : front_good e n ≡ (plain_name (part e name_offset n) && zeros e (name_offset + n) (front_bytes - n))
  front_plain = one_truth _ _ to from

-- the first bytes of the room, and the rest of it
pub front_spelled : (e : List ℕ) (n : ℕ) → 32 ≤ length e → n ≤ front_bytes → name_spelled e n ≡ (front_good e n && zeros e 32 (length e - 32))
unfolding name_spelled
front_spelled e n long short =
    let a : length e - name_offset - n ≡ (front_bytes - n) + (length e - 32) = omega arith in
    let b : name_offset + n + (front_bytes - n) ≡ 32 = omega arith in
    rw (a, zeros_split e (name_offset + n) (front_bytes - n) (length e - 32), b, front_plain e n long short) (and_moved (plain_name (part e name_offset n)) _ _)
  where
    and_moved : (x y z : Bool) → (x && (y && z)) ≡ ((x && y) && z)
    and_moved true y z = refl
    and_moved false y z = refl
