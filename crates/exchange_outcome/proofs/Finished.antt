-- The finished image of an exchange, record by record: those that the rows write, and all others as before. Assumes nothing.
use Rattle.std.specs.Prelude.{◌≡◌, refl, ◌≢◌, List, [], ◌∷◌, ℕ, ◌<◌}
use Rattle.std.proofs.Common.{inl, arith, lit<}
use Rattle.std.proofs.Math.Logic.{inr}
use Rattle.layout.specs.declared.Shape.{Shape}
use Rattle.layout.specs.Place.{Key}
use Rattle.layout.specs.Facts.{Valid}
use Rattle.layout.specs.Record.{record_at}
use Rattle.layout.specs.View.{inode_at, entry_at, text_at, handle_at, journal_at}
use Rattle.encode.specs.Entry.{retargeted}
use Rattle.plan.specs.Write.{Write, inode_key, entry_key, text_key, journal_key}
use Rattle.recounts.specs.declared.Move.{Move}
use Rattle.results.specs.Results.{moved_after, moved_row}
use Rattle.exchanges.specs.Exchange.{back, slot_row, parent_after, parent_row, parent_rows, exchange_results}
use Rattle.crash_theorem.specs.Pick.{Has}
use Rattle.crash_theorem.proofs.PickLaws.{any_left, any_right}
use Rattle.crash_theorem.specs.Store.{Spares}
use Rattle.crash_theorem.specs.Plan.{after_of}
use Rattle.image_store.specs.Image.{Ok}
use Rattle.image_store.proofs.ImageLaws.{images}
use Rattle.image_store.proofs.Safe.{after_stored}
use Rattle.image_store.proofs.After.{after_ok, after_written, after_kept}
use Rattle.outcome.proofs.Rows.{has_apart, has_either}
use Rattle.exchange_outcome.specs.Outcome.{exchanged}
use Rattle.exchange_outcome.specs.ExchangePlan.{exchange_plan}
use Rattle.exchange_outcome.specs.Paired.{Paired}
use Rattle.exchange_outcome.proofs.PlanRows.{section_spared, entry_spared, inode_spared, well_formed}

-- ---- which rows there are

module _ (h : Shape) (s : List ℕ) (m : Move) where
  into_has : Has (parent_rows h s m) (parent_row h s m m.into)
  into_has = has_either (parent_rows h s m) (parent_row h s m) m.into m.from (inl refl) (λ n. inr (has_apart m.into m.from _ n))

  parent_has : (i : ℕ) → Has (parent_rows h s m) (parent_row h s m i) → Has (exchange_results h s m) (parent_row h s m i)
  unfolding exchange_results
  parent_has i a = inr (inr (inr (any_left (λ w. w ≡ parent_row h s m i) (parent_rows h s m) (moved_row h s (back m) ∷ []) a)))

  replaced_has : Has (exchange_results h s m) (moved_row h s (back m))
  unfolding exchange_results
  replaced_has = inr (inr (inr (any_right (λ w. w ≡ moved_row h s (back m)) (parent_rows h s m) (moved_row h s (back m) ∷ []) (inl refl))))

module _ {h : Shape} {s : List ℕ} {m : Move} (c : Paired h s m) where
  abbrev t : List ℕ
  t = exchanged h s m

  -- it is the image after the journaled plan
  pub exchanged_after : after_of (images h s) (exchange_plan h s m) ≡ t
  unfolding exchanged
  exchanged_after = after_stored h s (exchange_plan h s m) (well_formed c)

  -- its layout is that of the image before
  pub exchanged_ok : Ok h s t
  exchanged_ok = after_ok (well_formed c) exchanged_after

  -- ---- what is written

  written : (w : Write) → Has (exchange_results h s m) w → record_at h t w.key.section w.key.index ≡ w.body
  written = after_written (well_formed c) exchanged_after

  pub old_written : entry_at h t m.old ≡ retargeted m.replaced (entry_at h s m.old)
  unfolding exchange_results
  old_written = written (slot_row h s (back m)) (inl refl)

  pub new_written : entry_at h t m.new ≡ retargeted m.moved (entry_at h s m.new)
  unfolding exchange_results
  new_written = written (slot_row h s m) (inr (inl refl))

  pub moved_written : inode_at h t m.moved ≡ moved_after h s m
  unfolding exchange_results
  moved_written = written (moved_row h s m) (inr (inr (inl refl)))

  pub replaced_written : inode_at h t m.replaced ≡ moved_after h s (back m)
  replaced_written = written _ (replaced_has h s m)

  pub from_written : inode_at h t m.from ≡ parent_after h s m m.from
  from_written = written _ (parent_has h s m m.from (inl refl))

  pub into_written : inode_at h t m.into ≡ parent_after h s m m.into
  into_written = written _ (parent_has h s m m.into (into_has h s m))

  -- ---- what is kept

  kept : (k : Key) → Valid h k → Spares (images h s) (exchange_results h s m) k
      → record_at h t k.section k.index ≡ record_at h s k.section k.index
  kept = after_kept (well_formed c) exchanged_after

  pub entry_kept : (j : ℕ) → j < h.entries → j ≢ m.old → j ≢ m.new → entry_at h t j ≡ entry_at h s j
  entry_kept j l old new = kept (entry_key j) (record { in_image = lit< tt; in_section = l }) (entry_spared h s m j old new)

  pub inode_kept : (i : ℕ) → i < h.inodes → i ≢ m.moved → i ≢ m.from → i ≢ m.into → i ≢ m.replaced → inode_at h t i ≡ inode_at h s i
  inode_kept i l moved from into replaced =
      kept (inode_key i) (record { in_image = lit< tt; in_section = l }) (inode_spared h s m i moved from into replaced)

  pub text_kept : (x : ℕ) → x < h.texts → text_at h t x ≡ text_at h s x
  text_kept x l = kept (text_key x) (record { in_image = lit< tt; in_section = l }) (section_spared h s m 2 x (omega arith))

  pub handle_kept : (n : ℕ) → n < h.handles → handle_at h t n ≡ handle_at h s n
  handle_kept n l = kept (record { section = 3; index = n }) (record { in_image = lit< tt; in_section = l }) (section_spared h s m 3 n (omega arith))

  pub journal_kept : journal_at h t ≡ journal_at h s
  journal_kept = kept journal_key (record { in_image = lit< tt; in_section = lit< tt }) (section_spared h s m 4 0 (omega arith))
