-- Writes that all replace one record whole, and a plan filled with their rows. Assumes nothing.
use Rattle.std.specs.Prelude.{◌≡◌, List, [], ◌∷◌, ℕ, ◌+◌, length}
use Rattle.layout.specs.declared.Shape.{Shape}
use Rattle.plan.specs.Form.{rows_put}
use Rattle.plan.specs.FitFacts.{Writes}
use Rattle.plan.specs.Write.{Write, rows_from}

-- each is one that an operation may write (rule 84)
abbrev pub AllWrites : Shape → List Write → Type 0
AllWrites h [] = Unit {0}
AllWrites h (w ∷ ws) = Writes h w.group w.key w.body × AllWrites h ws

-- writes as rows of a plan, for an image of shape h
module _ (h : Shape) where
  -- Plan q is plan p with these writes as rows from place i on, and n is the next place.
  pub record Filled (p : List ℕ) (i : ℕ) (ws : List Write) (q : List ℕ) (n : ℕ) : Type 0 where
    pub plan : q ≡ rows_put p i (rows_from h ws)
    pub next : n ≡ i + length ws
