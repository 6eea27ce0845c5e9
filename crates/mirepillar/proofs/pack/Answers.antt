-- `mirepillar::pack` meets its contract. Assumes nothing.
use Rattle.std.proofs.Common.{ℕ, ap₂, ◌∙◌}
use Rattle.mirepillar.specs.Result.{packed}
use Rattle.mirepillar.proofs.pack.Goals as goal

pub joined-requires : goal.joined-requires
joined-requires c = record { rows = rw c.unwrap_or.ensures c.requires.rows; old = c.requires.old; new = c.requires.new }

pub returns : goal.returns
returns c =
    c.joined.ensures
    ∙ ap₂ (λ (n k : ℕ). packed (record { number = n; rows = k; old = c.args.r.old; new = c.args.r.new })) c.number.ensures c.unwrap_or.ensures
