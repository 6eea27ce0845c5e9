-- A count of the entries where one of two slots is cleared. Assumes nothing.
use Rattle.std.specs.Prelude.{◌≡◌, refl, Bool, true, false, ℕ, ◌+◌, ◌≤◌}
use Rattle.std.proofs.Common.{sym, ap, ◌∙◌, arith}
use mir.Val.{bool_byte}
use Rattle.seq.specs.Count.{bit}
use Rattle.seq.specs.Search.{count}
use Rattle.seq.proofs.SearchLaws.{count_hit, count_miss}
use Rattle.recounts.specs.declared.Move.{Move}
use Rattle.recounts.specs.Recount.{edited}
use Rattle.recounts.specs.RecountLaws.{Two, recounted}
use Rattle.recounts.specs.Stands.{Stands}

-- a slot that is cleared counts for nothing
pub recounted_cleared : (m : Move) (n : ℕ) → Two m n → (p : ℕ → Bool) (made : Bool)
    → count (λ j. edited m j false made (p j)) n + (bit (p m.old) + bit (p m.new)) ≡ count p n + bit made
recounted_cleared m n two p made = omega (arith, recounted m n two p false made)

-- a Bool as the code counts it
pub byte_bit : (b : Bool) → bool_byte b ≡ bit b
byte_bit true = refl
byte_bit false = refl

-- the same where a call tells what the two slots count for, and all is counted in numbers of the code
pub recounted_told : {post : ℕ → Bool → Type 0} (m : Move) (n stand : ℕ) → Two m n → (p : ℕ → Bool) → Stands post p n stand
    → (made old new : Bool) {a b c : ℕ} → a ≡ bool_byte made → post m.old old → b ≡ bool_byte old → post m.new new → c ≡ bool_byte new
    → count (λ j. edited m j false made (p j)) n + (b + c) ≡ stand + a
recounted_told m n stand two p says made old new is-a told-old is-b told-new is-c =
    omega (
      arith,
      recounted_cleared m n two p made,
      says.counted,
      is-a ∙ byte_bit made,
      is-b ∙ byte_bit old ∙ ap bit (says.each m.old old two.old told-old),
      is-c ∙ byte_bit new ∙ ap bit (says.each m.new new two.new told-new),
    )

pub byte_le : (b : Bool) → bool_byte b ≤ 1
byte_le true = omega arith
byte_le false = omega arith

-- one number more
pub counted_on : (q : ℕ → Bool) (j found : ℕ) (b : Bool) {a : ℕ} → a ≡ bool_byte b → b ≡ q j → found ≡ count q j → found + a ≡ count q (j + 1)
counted_on q j found true is e f = omega (arith, is, f, count_hit q j (sym e))
counted_on q j found false is e f = omega (arith, is, f, count_miss q j (sym e))
