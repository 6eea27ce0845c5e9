-- The state of a handle is named by its number alone. Assumes nothing.
use Rattle.std.specs.Prelude.{◌≡◌, refl, List, ℕ, zero, suc}
use Rattle.std.proofs.Common.{arith, ap, sym, ◌∙◌}
use Rattle.layout.specs.declared.handle.State.{State}
use Rattle.layout.specs.Facts.{Reads}
use Rattle.layout.specs.Fields.{handle_state}
use Rattle.layout.specs.Kinds.{state_named, state_number}
use Rattle.layout.proofs.RecordLaws.{field_of}

named_number : (n : ℕ) → state_number (state_named n) ≡ n
named_number zero = refl
named_number (suc zero) = refl
named_number (suc (suc zero)) = refl
named_number (suc (suc (suc n))) = omega arith

-- the state that a handle's record says is the state number of the handle
pub record_state : {r x : List ℕ} {n : ℕ} {found : State} → Reads r x n → found ≡ state_named (handle_state r) → handle_state x ≡ state_number found
record_state {r} reads says = sym (field_of handle_state reads refl) ∙ sym (ap state_number says ∙ named_number (handle_state r))

-- and the number of another state is not that of its handle
pub record_other : {r x : List ℕ} {n : ℕ} {found : State} → Reads r x n → found ≡ state_named (handle_state r)
    → (k : ℕ) → (found ≡ state_named k → ⊥) → handle_state x ≡ k → ⊥
record_other reads says k other is = other (says ∙ ap state_named (field_of handle_state reads refl ∙ is))
