-- Recovery finishes an exchange, on every image on its way once the journal record is set: what the crash theorem asks of it. Assumes nothing.
use Rattle.std.specs.Prelude.{◌≡◌, refl, ◌⊎◌, true, ◌&&◌, ◌||◌, List, [], ◌∷◌, ◌++◌, ℕ, eqb}
use Rattle.std.proofs.Common.{sym, ap, ◌∙◌, ⊎_elim, lit<}
use Rattle.std.proofs.Math.Bool.{or-true}
use Rattle.std.proofs.Math.Option.{some}
use borrow.Author.Tests.{eq-eqb, ne_eqb, lt-ltb}
use Rattle.layout.specs.declared.Shape.{Shape}
use Rattle.layout.specs.View.{View, view_of, entry_used, is_directory}
use Rattle.encode.specs.declared.journal.Journal.{Journal}
use Rattle.encode.specs.Facts.{InRange}
use Rattle.encode.specs.Journal.{exchange_kind, journal_bytes}
use Rattle.edits.specs.Kinds.{IsDirectory, EntryUsed}
use Rattle.edits.proofs.Tests.{kind_test}
use Rattle.edits.proofs.ExchangedLaws.{slots_apart, side_directory, side_below_root, side_not_own, side_not_there}
use Rattle.plan.specs.Write.{Write, journal_key, store_all}
use Rattle.recounts.specs.declared.Move.{Move}
use Rattle.results.specs.Results.{clear_row}
use Rattle.results.specs.Start.{journal_for}
use Rattle.results.specs.InImage.{InImage}
use Rattle.exchanges.specs.Exchange.{exchange_results}
use Rattle.crash_theorem.specs.Obligations.{OnTheWay}
use Rattle.crash_theorem.specs.Plan.{Plan, behind_of, Recovers}
use Rattle.crash_theorem.proofs.Planned.{behind_all}
use Rattle.rename_drafts.specs.PendingRename.{move_from, into_good}
use Rattle.exchange_drafts.specs.PendingExchange.{slot_stands, slots_stand, exchange_fits, finishing_exchange}
use Rattle.exchange_drafts.proofs.ExchangeFit.{exchange_finished}
use Rattle.recover.specs.Recover.{if_consistent, recover}
use Rattle.image_store.specs.Image.{record_of}
use Rattle.image_store.proofs.ImageLaws.{images}
use Rattle.image_store.specs.Mixed.{Mixed}
use Rattle.image_store.proofs.MixedLaws.{way_mixed}
use Rattle.exchange_outcome.specs.Outcome.{exchanged}
use Rattle.exchange_outcome.specs.ExchangePlan.{exchange_plan}
use Rattle.exchange_outcome.specs.Paired.{Paired}
use Rattle.exchange_outcome.proofs.PairedLaws.{before_good, in_image}
use Rattle.exchange_outcome.proofs.PlanRows.{well_formed}
use Rattle.exchange_outcome.proofs.Finished.{exchanged_after}
use Rattle.exchange_outcome.proofs.Consistent.{exchanged_clear, before_consistent, exchange_consistent}
use Rattle.exchange_outcome.proofs.Way.{kind_mixed, mixed_results}
use Rattle.rename_survives.proofs.Pending.{in_range_lem, by_record, nothing_pending}
use Rattle.rename_survives.proofs.Behind.{behind_stored, behind_answered}
use Rattle.exchange_survives.specs.Run.{exchange_change}
use Rattle.exchange_survives.proofs.Slots.{swap, new_kept, old_kept}

-- a slot in use that targets either inode
stands : (w : View) (k a b : ℕ) → EntryUsed w k → (w.target k ≡ a) ⊎ (w.target k ≡ b) → (entry_used w k && (eqb (w.target k) a || eqb (w.target k) b)) ≡ true
stands w k a b u e =
    rw (ne_eqb _ _ u.1) (⊎_elim (λ (z : w.target k ≡ a). rw (eq-eqb _ _ z)) (λ (z : w.target k ≡ b). rw (eq-eqb _ _ z) (or-true (eqb (w.target k) a))) e)

module _ {h : Shape} {s : List ℕ} {m : Move} (c : Paired h s m) where
  abbrev t : List ℕ
  t = exchanged h s m

  abbrev plan : Plan (images h s)
  plan = exchange_plan h s m

  abbrev j : Journal
  j = journal_for exchange_kind m

  -- ---- the journal record fits, whichever targets stand in the slots

  range : InRange j
  range = in_range_lem h s c.read.laid exchange_kind (lit< tt) m image c.time
    where
      image : InImage h m
      image = record {
        old = (in_image c).slots.old;
        new = (in_image c).slots.new;
        moved = (in_image c).moved;
        from = (in_image c).from;
        into = (in_image c).into;
        replaced = λ _. (in_image c).replaced;
        text = λ n. absurd (n c.text);
      }

  module _ {x : List ℕ} (mixed : Mixed h s t x) where
    abbrev w : View
    w = view_of h x

    directory : (i : ℕ) → IsDirectory (view_of h s) i → is_directory w i ≡ true
    unfolding view_of
    directory i d = kind_test w i 2 (d.0, kind_mixed c mixed i d.0 ∙ d.1)

    into_is : w.parent m.new ≡ m.into
    into_is = (new_kept c mixed).parent ∙ c.allowed.second.parent

    from_is : w.parent m.old ≡ m.from
    from_is = (old_kept c mixed).parent ∙ c.allowed.first.parent

    into_good_lem : into_good w (move_from w j) ≡ true
    unfolding into_good
    into_good_lem =
        let good = before_good c in
        rw (
          into_is,
          directory m.into (side_directory good c.allowed.second),
          ne_eqb m.into m.moved (λ e. side_not_there good c.allowed.first (sym e)),
          ne_eqb m.into m.replaced (λ e. side_not_own good c.allowed.second (sym e)),
        )

    slots_stand_lem : slots_stand w j ≡ true
    unfolding slots_stand slot_stands
    slots_stand_lem =
        rw (
          stands w m.old m.moved m.replaced (old_kept c mixed).used (swap (old_kept c mixed).target),
          stands w m.new m.moved m.replaced (new_kept c mixed).used (new_kept c mixed).target,
          eq-eqb _ _ from_is,
          into_good_lem,
        )

    fits : exchange_fits h x j ≡ true
    unfolding exchange_fits
    fits =
        let good = before_good c in
        let first = c.allowed.first in
        let second = c.allowed.second in
        rw (
          lt-ltb _ _ (in_image c).slots.old,
          lt-ltb _ _ (in_image c).slots.new,
          lt-ltb _ _ (in_image c).moved,
          lt-ltb _ _ (in_image c).replaced,
          eq-eqb _ _ c.text,
          ne_eqb _ _ (slots_apart c.allowed),
          ne_eqb _ _ (side_below_root good first),
          ne_eqb _ _ (side_not_own good first),
          ne_eqb _ _ (λ e. c.allowed.other (sym e)),
          ne_eqb _ _ (side_not_there good second),
          ne_eqb _ _ (side_below_root good second),
          directory m.from (side_directory good first),
          slots_stand_lem,
        )

    -- the move that the record names, with the new parent that the new slot has
    abbrev move_to : ℕ → Move
    move_to into = record { old = m.old; new = m.new; moved = m.moved; from = m.from; into = into; replaced = m.replaced; text = m.text; now = m.now }

    same_move : m ≡ move_from w j
    same_move = ap move_to (sym into_is)

    -- recovery's rows are the exchange's own, behind the journal record
    finishing_is : finishing_exchange h x m ≡ behind_of (images h s) plan
    finishing_is = ap (λ (ws : List Write). ws ++ clear_row h ∷ []) (mixed_results c mixed)

    finished_off : record_of h x journal_key ≡ journal_bytes j → recover h x ≡ if_consistent h x (some (behind_of (images h s) plan))
    finished_off journal =
        by_record h x exchange_kind m range journal ∙ ap (if_consistent h x) (exchange_finished h x j fits m same_move ∙ ap some finishing_is)

  -- ---- on the way

  module _ {x : List ℕ} (i : OnTheWay (exchange_change h s m) true x) where
    mixed_at : Mixed h s t x
    mixed_at = way_mixed plan refl (exchanged_after c) true i

    -- On every image on the way recovery's rows are the exchange's own, byte for byte,
    pub recover_rows : finishing_exchange h x m ≡ exchange_results h s m ++ clear_row h ∷ []
    recover_rows = finishing_is mixed_at

    -- and stored they give the finished image.
    pub recover_stored : store_all h x (finishing_exchange h x m) ≡ t
    recover_stored = ap (store_all h x) recover_rows ∙ behind_stored plan (well_formed c) (exchanged_after c) i

    on : record_of h x journal_key ≡ journal_bytes j → recover h x ≡ some (behind_of (images h s) plan)
    on journal = behind_answered plan (well_formed c) (exchanged_after c) i (exchange_consistent c) (finished_off mixed_at journal)

  pub at_before : recover h s ≡ some []
  at_before = nothing_pending h s c.clear (before_consistent c)

  pub at_exchanged : recover h t ≡ some []
  at_exchanged = nothing_pending h t (exchanged_clear c) (exchange_consistent c)

  -- What the crash theorem asks of recovery. Nothing comes ahead of the deciding row, so nothing is ever taken back.
  pub recovers : Recovers (images h s) plan (recover h)
  recovers = record {
    undo = [];
    undoes = tt;
    undo_all = λ k a. a;
    redo = behind_of (images h s) plan;
    redoes = behind_all plan (recover h) (well_formed c);
    redo_all = λ k a. a;
    at_before = at_before;
    at_after = ap (recover h) (exchanged_after c) ∙ at_exchanged;
    back = λ x b. absurd b;
    on = λ x i journal. on i journal;
  }
