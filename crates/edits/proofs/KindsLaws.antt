-- What a number names in a view: one fact from another, and facts that can be decided. Assumes nothing.
use Rattle.std.specs.Prelude.{◌⊎◌, ℕ}
use Rattle.std.proofs.Common.{inl, inr, ⊎_elim, arith}
use mathlib.Core.Logic.Dec as dec
use Rattle.std.proofs.Math.Decide.{ℕ_discrete, dec_lt}
use Rattle.layout.specs.View.{View}
use Rattle.edits.specs.Kinds.{IsKind, IsDirectory, IsSymlink, IsUsed, EntryUsed}

-- directories and symlinks are in use
pub directory_used : (v : View) (i : ℕ) → IsDirectory v i → IsUsed v i
directory_used v i (l, e) = (l, λ z. omega arith)

pub symlink_used : (v : View) (i : ℕ) → IsSymlink v i → IsUsed v i
symlink_used v i (l, e) = (l, λ z. omega arith)

-- each is decided by the view
pub kind? : (v : View) (i k : ℕ) → Dec (IsKind v i k)
kind? v i k = dec.and (dec_lt i v.inodes) (ℕ_discrete (v.kind i) k)

pub entry_used? : (v : View) (j : ℕ) → Dec (EntryUsed v j)
entry_used? v j = dec.and (dec_lt j v.entries) (dec.not (ℕ_discrete (v.name_length j) 0))

pub either? : {A B : Type 0} → Dec A → Dec B → Dec (A ⊎ B)
either? (yes a) d = yes (inl a)
either? (no a) (yes b) = yes (inr b)
either? (no a) (no b) = no (⊎_elim a b)
