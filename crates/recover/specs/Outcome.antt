-- Rows applied one after another by the job that applies one. Assumes nothing.
use Rattle.std.specs.Prelude.{List, ℕ, zero, suc, ◌+◌}
use Rattle.apply.specs.Apply.{applied_image}

-- the image after n rows of a plan, from number i on
unfoldable pub applied_from : List ℕ → List ℕ → ℕ → ℕ → List ℕ
applied_from image plan i zero = image
applied_from image plan i (suc n) = applied_from (applied_image image plan i) plan (i + 1) n
