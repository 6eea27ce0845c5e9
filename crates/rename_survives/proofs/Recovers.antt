-- Recovery takes back or finishes a rename, on every image on its way: what the crash theorem asks of it. Assumes nothing.
use Rattle.std.specs.Prelude.{◌≡◌, refl, ◌≢◌, Bool, true, false, List, [], ◌∷◌, ◌++◌, ℕ, ◌<◌, eqb}
use Rattle.std.proofs.Common.{sym, ap, ◌∙◌, arith, lit<}
use Rattle.std.proofs.Math.Option.{some}
use Rattle.std.proofs.Math.Decide.{ℕ_discrete}
use borrow.Author.Tests.{eqb-true, eqb-false, eq-eqb, ne_eqb, lt-ltb, not-true}
use Rattle.seq.specs.Truth.{refuted, and_left, and_right}
use Rattle.layout.specs.declared.Shape.{Shape}
use Rattle.layout.specs.Limits.{absent}
use Rattle.layout.specs.View.{View, view_of, inode_at, entry_at, entry_used, is_directory}
use Rattle.encode.specs.Facts.{InRange}
use Rattle.encode.specs.Journal.{rename_kind, journal_bytes}
use Rattle.edits.specs.Kinds.{IsDirectory}
use Rattle.edits.proofs.Tests.{kind_test}
use Rattle.edits.proofs.Finished.{slots_differ, from_directory, moved_below_root, moved_not_from, moved_not_into}
use Rattle.plan.specs.Write.{Write, entry_key, journal_key, store_all}
use Rattle.plan.proofs.WriteLaws.{other_section}
use Rattle.recounts.specs.declared.Move.{Move}
use Rattle.results.specs.Results.{holder_after, results, clear_row}
use Rattle.results.specs.Start.{journal_for}
use Rattle.crash_theorem.specs.Change.{Change}
use Rattle.crash_theorem.specs.Obligations.{OnTheWay}
use Rattle.crash_theorem.specs.Plan.{Plan, WellFormed, Recovers, behind_of}
use Rattle.crash_theorem.proofs.Planned.{clear_settles, behind_all, reached, decided_record, undecided_record}
use Rattle.moves.specs.Plan.{new_entry}
use Rattle.rename_drafts.specs.PendingRename.{below_or_absent, rename_fits, move_from, entry_stands, into_good, undoing, finishing, move_draft}
use Rattle.rename_drafts.proofs.Fit.{rename_move, move_undone, move_finished}
use Rattle.recover.specs.Recover.{if_consistent, recover}
use Rattle.image_store.specs.Image.{record_of}
use Rattle.image_store.proofs.ImageLaws.{record_is, images, puts_store}
use Rattle.image_store.specs.Mixed.{Mixed}
use Rattle.image_store.proofs.MixedLaws.{way_mixed}
use Rattle.outcome.specs.Outcome.{finished}
use Rattle.outcome.specs.RenamePlan.{rename_plan}
use Rattle.outcome.specs.Called.{Called}
use Rattle.outcome.proofs.CalledLaws.{before_good, in_image, replaced_not_moved, replaced_not_from, replaced_not_into, new_entry_names}
use Rattle.outcome.proofs.Finished.{finished_after, from_written, into_written}
use Rattle.outcome.proofs.Consistent.{before_consistent, finished_clear, finished_consistent}
use Rattle.outcome.proofs.PlanRows.{well_formed}
use Rattle.rename_survives.specs.Run.{rename_change}
use Rattle.rename_survives.proofs.Way.{parent_typed, mixed_results}
use Rattle.rename_survives.proofs.Pending.{in_range_lem, by_record, answered, nothing_pending}
use Rattle.rename_survives.proofs.Behind.{behind_stored, behind_answered}

below_or : (i n : ℕ) → (i ≢ absent → i < n) → below_or_absent i n ≡ true
below_or i n f = go (ℕ_discrete i absent)
  where
    go : Dec (i ≡ absent) → below_or_absent i n ≡ true
    go (yes e) = rw e
    go (no d) = rw (ne_eqb _ _ d, lt-ltb _ _ (f d))

module _ {h : Shape} {s : List ℕ} {m : Move} {called : List ℕ} (c : Called h s m called) where
  abbrev v : View
  v = view_of h s

  abbrev t : List ℕ
  t = finished h s m called

  abbrev plan : Plan (images h s)
  plan = rename_plan h s m called

  abbrev 𝓦 : WellFormed (images h s) plan
  𝓦 = well_formed c

  abbrev 𝓒 : Change (images h s)
  𝓒 = rename_change h s m called

  -- ---- the journal record fits

  range : InRange (journal_for rename_kind m)
  range = in_range_lem h s c.read.laid rename_kind (lit< tt) m (in_image c) c.time

  -- the move, with the new parent that the new slot names
  abbrev move_to : ℕ → Move
  move_to into = record { old = m.old; new = m.new; moved = m.moved; from = m.from; into = into; replaced = m.replaced; text = m.text; now = m.now }

  -- an inode is not absent
  not_replaced : (k : ℕ) → k < h.inodes → (m.replaced ≢ absent → m.replaced ≢ k) → m.replaced ≢ k
  not_replaced k l f e = f (λ z. omega (arith, sym z ∙ e, c.read.laid.inodes_most)) e

  module _ {x : List ℕ} (mixed : Mixed h s t x) (journal : record_of h x journal_key ≡ journal_bytes (journal_for rename_kind m)) where
    directory : (i : ℕ) → IsDirectory v i → inode_at h t i ≡ holder_after h s m i → is_directory (view_of h x) i ≡ true
    unfolding view_of
    directory i d e = kind_test (view_of h x) i 2 (d.0, parent_typed c mixed i d.0 e ∙ d.1)

    fits : rename_fits h x (journal_for rename_kind m) ≡ true
    unfolding rename_fits
    fits =
        let good = before_good c in
        let ok = c.allowed in
        rw (
          lt-ltb _ _ (in_image c).old,
          lt-ltb _ _ (in_image c).new,
          lt-ltb _ _ (in_image c).moved,
          below_or _ _ (in_image c).replaced,
          below_or _ _ (in_image c).text,
          ne_eqb _ _ (slots_differ good ok),
          ne_eqb _ _ (moved_below_root good ok),
          ne_eqb _ _ (moved_not_from good ok),
          ne_eqb _ _ (not_replaced m.moved (in_image c).moved (replaced_not_moved c)),
          ne_eqb _ _ (not_replaced m.from (in_image c).from (replaced_not_from c)),
          directory m.from (from_directory good ok) (from_written c),
        )

    -- so what recovery does hangs on the new slot
    by_slot : recover h x ≡ if_consistent h x (move_draft h x (move_to ((view_of h x).parent m.new)))
    by_slot =
        by_record h x rename_kind m range journal
        ∙ ap (if_consistent h x) (rename_move h x (journal_for rename_kind m) fits (move_from (view_of h x) (journal_for rename_kind m)) refl)

    -- while the slot is as before
    module _ (same : entry_at h x m.new ≡ entry_at h s m.new) where
      undecided : (i : ℕ) → entry_stands (view_of h x) (move_to i) ≡ false
      unfolding entry_stands view_of
      undecided i = rw same (refuted _ (λ d.
          c.allowed.other ((in_image c).new, eqb-false _ _ (not-true (eqb (v.name_length m.new) 0) (and_left (entry_used v m.new) _ d)))
          (eqb-true _ _ (and_right (entry_used v m.new) (eqb (v.target m.new) m.moved) d))))

      taken_back : recover h x ≡ if_consistent h x (some (undoing h x))
      taken_back = by_slot ∙ ap (if_consistent h x) (move_undone h x _ (undecided ((view_of h x).parent m.new)))

    -- once it holds the new entry
    module _ (same : entry_at h x m.new ≡ new_entry h s m called) where
      into_is : (view_of h x).parent m.new ≡ m.into
      unfolding view_of
      into_is = rw same (new_entry_names c).parent

      is_decided : entry_stands (view_of h x) m ≡ true
      unfolding entry_stands view_of
      is_decided = rw same (rw (ne_eqb _ _ (λ z. c.nonempty (sym (new_entry_names c).name_length_lem ∙ z)), eq-eqb _ _ (new_entry_names c).target))

      into_good_lem : into_good (view_of h x) m ≡ true
      unfolding into_good
      into_good_lem =
          rw (
            directory m.into c.allowed.into_directory (into_written c),
            ne_eqb m.into m.moved (λ e. moved_not_into (before_good c) c.allowed (sym e)),
            ne_eqb m.into m.replaced (λ e. not_replaced m.into (in_image c).into (replaced_not_into c) (sym e)),
          )

      -- its rows are the rename's own, behind the deciding one
      finishing_is : finishing h x m ≡ behind_of (images h s) plan
      finishing_is = ap (λ (ws : List Write). ws ++ clear_row h ∷ []) (mixed_results c mixed)

      finished_off : recover h x ≡ if_consistent h x (some (behind_of (images h s) plan))
      finished_off =
          by_slot ∙ ap (λ (i : ℕ). if_consistent h x (move_draft h x (move_to i))) into_is
          ∙ ap (if_consistent h x) (move_finished h x m is_decided into_good_lem ∙ ap some finishing_is)

  -- ---- on the way

  mixed_at : (d : Bool) {x : List ℕ} → OnTheWay 𝓒 d x → Mixed h s t x
  mixed_at d i = way_mixed plan refl (finished_after c) d i

  new_slot : (y : List ℕ) → record_of h y (entry_key m.new) ≡ entry_at h y m.new
  new_slot y = record_is h y (entry_key m.new) (record { in_image = lit< tt; in_section = (in_image c).new })

  back : (x : List ℕ) → OnTheWay 𝓒 false x → record_of h x journal_key ≡ journal_bytes (journal_for rename_kind m) → recover h x ≡ some (undoing h s)
  back x i j =
      let same : record_of h x (entry_key m.new) ≡ record_of h s (entry_key m.new) =
      undecided_record plan (recover h) 𝓦 i (entry_key m.new) (other_section _ _ (λ e. omega arith)) tt in
      let leads = reached plan (recover h) 𝓦 false (undoing h s) (λ k a. a) tt i (clear_settles plan (recover h) 𝓦 false, tt) in
      taken_back (mixed_at false i) j (sym (new_slot x) ∙ same ∙ new_slot s)
      ∙ answered h x (undoing h s) (sym (puts_store h s x (undoing h s) (𝓦.clear_fits, tt)) ∙ leads) (before_consistent c)

  module _ {x : List ℕ} (i : OnTheWay 𝓒 true x) (j : record_of h x journal_key ≡ journal_bytes (journal_for rename_kind m)) where
    new_there : entry_at h x m.new ≡ new_entry h s m called
    new_there = sym (new_slot x) ∙ decided_record plan (recover h) 𝓦 tt i

    -- On every image on the way recovery's rows are the rename's own, byte for byte,
    pub recover_rows : finishing h x m ≡ results h s m ++ clear_row h ∷ []
    recover_rows = finishing_is (mixed_at true i) j new_there

    -- and stored they give the finished image.
    pub recover_stored : store_all h x (finishing h x m) ≡ t
    recover_stored = ap (store_all h x) recover_rows ∙ behind_stored plan 𝓦 (finished_after c) i

    on : recover h x ≡ some (behind_of (images h s) plan)
    on = behind_answered plan 𝓦 (finished_after c) i (finished_consistent c) (finished_off (mixed_at true i) j new_there)

  pub at_before : recover h s ≡ some []
  at_before = nothing_pending h s c.clear (before_consistent c)

  pub at_finished : recover h t ≡ some []
  at_finished = nothing_pending h t (finished_clear c) (finished_consistent c)

  -- What the crash theorem asks of recovery.
  pub recovers : Recovers (images h s) plan (recover h)
  recovers = record {
    undo = undoing h s;
    undoes = (clear_settles plan (recover h) 𝓦 false, tt);
    undo_all = λ k a. a;
    redo = behind_of (images h s) plan;
    redoes = behind_all plan (recover h) 𝓦;
    redo_all = λ k a. a;
    at_before = at_before;
    at_after = ap (recover h) (finished_after c) ∙ at_finished;
    back = λ x _ i j. back x i j;
    on = λ x i j. on i j;
  }
