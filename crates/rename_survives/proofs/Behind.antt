-- Recovery by the plan's own rows behind the decision: they lead to the image after, and recovery answers them. Assumes nothing.
use Rattle.std.specs.Prelude.{◌≡◌, true, List, ℕ}
use Rattle.std.proofs.Common.{sym, ◌∙◌}
use Rattle.std.proofs.Math.Option.{some}
use Rattle.layout.specs.declared.Shape.{Shape}
use Rattle.consistency.specs.Consistent.{consistent}
use Rattle.plan.specs.Write.{store_all}
use Rattle.crash_theorem.specs.Pick.{All}
use Rattle.crash_theorem.proofs.PickLaws.{all_map}
use Rattle.crash_theorem.specs.Store.{Rows}
use Rattle.crash_theorem.specs.Change.{Change}
use Rattle.crash_theorem.specs.Obligations.{OnTheWay, Settles}
use Rattle.crash_theorem.specs.Plan.{Plan, WellFormed, after_of, behind_of, change}
use Rattle.crash_theorem.proofs.Planned.{behind_all, reached}
use Rattle.recover.specs.Recover.{if_consistent, recover}
use Rattle.image_store.specs.Image.{Fits}
use Rattle.image_store.proofs.ImageLaws.{images, puts_store}
use Rattle.rename_survives.proofs.Pending.{answered}

module _ {h : Shape} {s : List ℕ} (p : Plan (images h s)) (𝓦 : WellFormed (images h s) p) {t : List ℕ} (is : after_of (images h s) p ≡ t) where
  abbrev 𝓒 : Change (images h s)
  𝓒 = change (images h s) p (recover h)

  abbrev behind : Rows (images h s)
  behind = behind_of (images h s) p

  behind_fits : All (Fits h) behind
  behind_fits = all_map (Settles 𝓒 true) (Fits h) (λ w a. a.fits) behind (behind_all p (recover h) 𝓦)

  module _ {x : List ℕ} (i : OnTheWay 𝓒 true x) where
    pub behind_stored : store_all h x behind ≡ t
    behind_stored =
        sym (puts_store h s x behind behind_fits) ∙ reached p (recover h) 𝓦 true behind (λ k a. a) tt i (behind_all p (recover h) 𝓦) ∙ is

    pub behind_answered : consistent t ≡ true → recover h x ≡ if_consistent h x (some behind) → recover h x ≡ some behind
    behind_answered good e = e ∙ answered h x behind behind_stored good
