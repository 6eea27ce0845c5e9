-- The ways out of making the new entry of a rename. Assumes nothing.
use Rattle.std.specs.Prelude.{◌≡◌, ◌≢◌, List, ℕ}
use Rattle.std.proofs.Common.{ap, ◌∙◌, eq-eqb, ne_eqb}
use Rattle.layout.specs.declared.Shape.{Shape}
use Rattle.layout.specs.Limits.{absent}
use Rattle.layout.specs.View.{entry_at}
use Rattle.encode.specs.Entry.{entry_bytes, retargeted}
use Rattle.recounts.specs.declared.Move.{Move}
use Rattle.moves.specs.Plan.{new_entry}

module _ (h : Shape) (s : List ℕ) (m : Move) (called r : List ℕ) where
  pub entry_made : m.replaced ≡ absent → (n : ℕ) → n ≡ h.width → r ≡ entry_bytes n m.into m.moved called → r ≡ new_entry h s m called
  entry_made none n e is = rw (eq-eqb m.replaced absent none) (is ∙ ap (λ (k : ℕ). entry_bytes k m.into m.moved called) e)

  pub entry_taken : m.replaced ≢ absent → (x : List ℕ) → x ≡ entry_at h s m.new → r ≡ retargeted m.moved x → r ≡ new_entry h s m called
  entry_taken some x e is = rw (ne_eqb m.replaced absent some) (is ∙ ap (retargeted m.moved) e)
