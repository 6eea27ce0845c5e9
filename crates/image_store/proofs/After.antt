-- The image after an operation, record by record: those that its rows write, and all others as before. Assumes nothing.
use Rattle.std.specs.Prelude.{◌≡◌, List, ℕ}
use Rattle.std.proofs.Common.{sym, ◌∙◌}
use Rattle.layout.specs.declared.Shape.{Shape}
use Rattle.layout.specs.Place.{Key}
use Rattle.layout.specs.Facts.{Valid}
use Rattle.layout.specs.Record.{record_at}
use Rattle.plan.specs.Write.{Write}
use Rattle.crash_theorem.specs.Pick.{Has}
use Rattle.crash_theorem.proofs.PickLaws.{all_has}
use Rattle.crash_theorem.specs.Store.{Rows, Spares}
use Rattle.crash_theorem.proofs.StoreLaws.{all_ok, rows_same, all_other}
use Rattle.crash_theorem.specs.Plan.{Plan, WellFormed, writes, after_of}
use Rattle.image_store.specs.Image.{Ok, Fits}
use Rattle.image_store.proofs.ImageLaws.{record_is, images}

module _ {h : Shape} {s₀ : List ℕ} {p : Plan (images h s₀)} (𝓦 : WellFormed (images h s₀) p) {t : List ℕ} (is : after_of (images h s₀) p ≡ t) where
  abbrev rows : Rows (images h s₀)
  rows = writes (images h s₀) p

  -- its layout is that of the image before
  pub after_ok : Ok h s₀ t
  after_ok = rw is at (all_ok (images h s₀) rows 𝓦.ok 𝓦.fits)

  pub after_written : (w : Write) → Has rows w → record_at h t w.key.section w.key.index ≡ w.body
  after_written w a =
      sym (record_is h t w.key (all_has (Fits h) rows 𝓦.fits w a).writes.valid)
      ∙ (rw is at (rows_same (images h s₀) rows 𝓦.ok 𝓦.fits 𝓦.distinct w a))

  pub after_kept : (k : Key) → Valid h k → Spares (images h s₀) rows k
      → record_at h t k.section k.index ≡ record_at h p.before k.section k.index
  after_kept k valid a =
      sym (record_is h t k valid) ∙ (rw is at (all_other (images h s₀) rows 𝓦.ok 𝓦.fits k a)) ∙ record_is h p.before k valid
