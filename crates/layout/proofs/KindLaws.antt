-- A type is named by its number alone, and what a number names is told by the type of it. Assumes nothing.
use Rattle.std.specs.Prelude.{◌≡◌, refl, Bool, true, false, List, ℕ, zero, suc, ◌<◌, ◌≤◌}
use Rattle.std.proofs.Common.{arith, ap, sym, ◌∙◌}
use Rattle.std.proofs.lemmas.Bool.{false≢true}
use Rattle.layout.specs.declared.kind.Kind.{Kind}
use Rattle.layout.specs.declared.kind.Kind.TheVariants.{Free, File, Directory, Symlink, Unknown}
use Rattle.layout.specs.Facts.{Reads}
use Rattle.layout.specs.Fields.{inode_kind}
use Rattle.layout.specs.Kinds.{kind_named, kind_number}
use Rattle.layout.proofs.RecordLaws.{field_of}

pub named_number : (n : ℕ) → kind_number (kind_named n) ≡ n
named_number zero = refl
named_number (suc zero) = refl
named_number (suc (suc zero)) = refl
named_number (suc (suc (suc zero))) = refl
named_number (suc (suc (suc (suc n)))) = omega arith

-- the number of what is known to have this type
pub number_of_kind : (n : ℕ) (k : Kind) → k ≡ kind_named n → n ≡ kind_number k
number_of_kind n k e = sym (ap kind_number e ∙ named_number n)

-- the type that an inode's record says is the type number of the inode
module _ {r x : List ℕ} {n : ℕ} {found : Kind} (reads : Reads r x n) (says : found ≡ kind_named (inode_kind r)) where
  pub record_kind : inode_kind x ≡ kind_number found
  record_kind = sym (field_of inode_kind reads refl) ∙ number_of_kind _ _ says

  pub record_other : (k : ℕ) → (found ≡ kind_named k → ⊥) → inode_kind x ≡ k → ⊥
  record_other k other is = other (says ∙ ap kind_named (field_of inode_kind reads refl ∙ is))

-- and the numbers of no type are those from 4 on
is_unknown : Kind → Bool
is_unknown (Unknown n) = true
is_unknown Free = false
is_unknown File = false
is_unknown Directory = false
is_unknown Symlink = false

pub unknown_number : (m : ℕ) {n : ℕ} → Unknown n ≡ kind_named m → 4 ≤ m
unfolding is_unknown
unknown_number zero e = absurd (false≢true (sym (ap is_unknown e)))
unknown_number (suc zero) e = absurd (false≢true (sym (ap is_unknown e)))
unknown_number (suc (suc zero)) e = absurd (false≢true (sym (ap is_unknown e)))
unknown_number (suc (suc (suc zero))) e = absurd (false≢true (sym (ap is_unknown e)))
unknown_number (suc (suc (suc (suc m)))) e = omega arith

pub record_unknown : {r x : List ℕ} {n m : ℕ} → Reads r x n → Unknown m ≡ kind_named (inode_kind r) → (k : ℕ) → k < 4 → inode_kind x ≡ k → ⊥
record_unknown {r} reads says k low is =
    let past : 4 ≤ inode_kind r = unknown_number _ says in
    let same : inode_kind r ≡ k = field_of inode_kind reads refl ∙ is in
    omega arith
