-- What recovery (the papers' repair) is lent besides the image: two buffers, of any bytes and lengths. Assumes nothing.
use Rattle.std.specs.Prelude.{Bool, ◌&&◌, List, ℕ, leb, length}
use Rattle.plan.specs.Form.{plan_bytes}

pub record Buffers : Type 0 where
  -- takes the plan; what lies past the plan stays (rule 79)
  pub plan : List ℕ
  -- takes the image as it will be
  pub scratch : List ℕ

-- the one holds a plan, and the other the image
unfoldable pub enough : Buffers → List ℕ → Bool
enough b s = leb plan_bytes (length b.plan) && leb (length s) (length b.scratch)
