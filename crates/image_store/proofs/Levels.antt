-- Rows of one group stand in order, with rows of no lower group behind them. Assumes nothing.
use Rattle.std.specs.Prelude.{◌≡◌, List, [], ◌∷◌, ◌++◌, ℕ, ◌≤◌}
use Rattle.std.proofs.Common.{arith}
use Rattle.layout.specs.declared.Shape.{Shape}
use Rattle.plan.specs.Write.{Write}
use Rattle.crash_theorem.specs.Pick.{All}
use Rattle.crash_theorem.proofs.PickLaws.{all_join, all_map}
use Rattle.crash_theorem.specs.Order.{Sorted}
use Rattle.image_store.proofs.ImageLaws.{images}

pub level_sorted : (h : Shape) (s : List ℕ) (g : ℕ) (us ws : List Write) → All (λ w. w.group ≡ g) us → All (λ w. g ≤ w.group) ws → Sorted (images h s) ws
    → Sorted (images h s) (us ++ ws)
level_sorted h s g [] ws e l d = d
level_sorted h s g (u ∷ us) ws e l d =
    let level : All (λ w. g ≤ w.group) us = all_map (λ w. w.group ≡ g) (λ w. g ≤ w.group) (λ w f. omega arith) us e.1 in
    (rw e.0 (all_join (λ w. g ≤ w.group) us ws level l), level_sorted h s g us ws e.1 l d)
