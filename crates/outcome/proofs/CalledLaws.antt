-- The records that a planned rename writes are in the image, and different ones. Assumes nothing.
use Rattle.std.specs.Prelude.{◌≡◌, refl, ◌≢◌, Bool, true, false, ◌&&◌, cond, List, ℕ, ◌<◌, eqb}
use Rattle.std.proofs.Math.Path.{sym}
use Rattle.std.proofs.Common.{◌∙◌, arith}
use borrow.Author.Tests.{eqb-true, eqb-false, eq-eqb, ne_eqb, not-true}
use Rattle.seq.specs.Truth.{and_left, and_right}
use Rattle.layout.specs.declared.Shape.{Shape}
use Rattle.layout.specs.Limits.{absent}
use Rattle.layout.specs.View.{View, view_of, entry_at, entry_used, is_symlink}
use Rattle.encode.specs.Facts.{Names}
use Rattle.encode.specs.Entry.{entry_bytes, retargeted}
use Rattle.edits.specs.Kinds.{IsSymlink, EntryUsed}
use Rattle.edits.proofs.Tests.{kind_is}
use Rattle.edits.specs.ConsistentView.{ConsistentView}
use Rattle.edits.specs.Moved.{Replaced}
use Rattle.edits.proofs.Finished.{from_directory, from_stays, into_stays, moved_stays}
use Rattle.edits.proofs.Bodies.{bodies_consistent}
use Rattle.edits.proofs.WrittenLaws.{new_names}
use Rattle.refusals.specs.declared.case.Case.{Case}
use Rattle.plan.specs.Write.{journal_key}
use Rattle.recounts.specs.declared.Move.{Move}
use Rattle.recounts.specs.Recount.{entries_after}
use Rattle.results.specs.Results.{free_record}
use Rattle.results.specs.InImage.{InImage}
use Rattle.moves.specs.Plan.{move_of, new_entry}
use Rattle.image_store.specs.Image.{record_of}
use Rattle.outcome.proofs.Whole.{clear_zeros}
use Rattle.outcome.specs.Called.{text_of, Called}

-- The planner's move frees that text.
pub move_text : (v : View) (c : Case) (now : ℕ) → (move_of v c now).text ≡ text_of v (move_of v c now)
unfolding move_of entries_after
move_text v c now = refl

-- a number that is not absent was picked
picked : (b : Bool) (i : ℕ) → cond b i absent ≢ absent → (b ≡ true) × (cond b i absent ≡ i)
picked true i n = (refl, refl)
picked false i n = absurd (n refl)

module _ {h : Shape} {s : List ℕ} {m : Move} {called : List ℕ} (c : Called h s m called) where
  abbrev v : View
  v = view_of h s

  pub before_good : ConsistentView v
  before_good = bodies_consistent c.bodies

  -- ---- what is replaced, and what is freed

  pub replaced_is : m.replaced ≢ absent → Replaced v m.new m.replaced
  unfolding view_of
  replaced_is n =
      let (u, e) = picked (entry_used v m.new) (v.target m.new) (λ z. n (c.replaced ∙ z)) in
      ((c.allowed.new_below, eqb-false _ _ (not-true _ u)), sym (c.replaced ∙ e))

  pub is_replaced_lem : (i : ℕ) → Replaced v m.new i → m.replaced ≡ i
  is_replaced_lem i (u, e) = c.replaced ∙ rw (ne_eqb _ _ u.1) e

  pub replaced_below : (i : ℕ) → Replaced v m.new i → i < h.inodes
  unfolding view_of
  replaced_below i (u, e) = rw e at (before_good.placed.entry m.new u).target.0

  pub replaced_present : EntryUsed v m.new → m.replaced ≢ absent
  replaced_present u z =
      let e : v.target m.new ≡ absent = sym (is_replaced_lem _ (u, refl)) ∙ z in
      omega (arith, replaced_below _ (u, e), c.read.laid.inodes_most)

  pub freed_text_lem : m.text ≢ absent → IsSymlink v m.replaced × (entries_after v m m.replaced ≡ 0) × (m.text ≡ v.field m.replaced)
  freed_text_lem n =
      let (b, e) = picked (is_symlink v m.replaced && eqb (entries_after v m m.replaced) 0) (v.field m.replaced) (λ z. n (c.text ∙ z)) in
      (kind_is v m.replaced 3 (search and_left), eqb-true _ _ (search (and_left, and_right)), c.text ∙ e)

  -- ---- the records that the rows write

  pub in_image : InImage h m
  unfolding view_of
  in_image = record {
    old = c.allowed.old_used.0;
    new = c.allowed.new_below;
    moved = rw c.allowed.old_target at (before_good.placed.entry m.old c.allowed.old_used).target.0;
    from = (from_directory before_good c.allowed).0;
    into = c.allowed.into_directory.0;
    replaced = λ n. replaced_below _ (replaced_is n);
    text = λ n. let (y, _, e) = freed_text_lem n in rw e (before_good.texts.used m.replaced y).0;
  }

  -- the replaced inode is none of the others
  pub replaced_not_moved : m.replaced ≢ absent → m.replaced ≢ m.moved
  replaced_not_moved n e = moved_stays before_good c.allowed (rw e at (replaced_is n))

  pub replaced_not_from : m.replaced ≢ absent → m.replaced ≢ m.from
  replaced_not_from n e = from_stays before_good c.allowed (rw e at (replaced_is n))

  pub replaced_not_into : m.replaced ≢ absent → m.replaced ≢ m.into
  replaced_not_into n e = into_stays before_good c.allowed (rw e at (replaced_is n))

  -- ---- the new entry, and the journal record

  -- whether a slot is taken over can be seen from the move, or from the slot
  pub entry_bytes_lem : new_entry h s m called
      ≡ cond (entry_used v m.new) (retargeted m.moved (entry_at h s m.new)) (entry_bytes h.width m.into m.moved c.name)
  entry_bytes_lem = go (entry_used v m.new) refl
    where
      go : (b : Bool) → entry_used v m.new ≡ b
          → new_entry h s m called ≡ cond b (retargeted m.moved (entry_at h s m.new)) (entry_bytes h.width m.into m.moved c.name)
      go true u = rw (ne_eqb _ _ (replaced_present (c.allowed.new_below, eqb-false _ _ (not-true _ u))))
      go false u =
          let none : m.replaced ≡ absent = c.replaced ∙ rw u in
          rw (eq-eqb _ _ none, c.missing none)

  pub new_entry_names : Names (new_entry h s m called) h.width m.into m.moved c.name
  new_entry_names = rw entry_bytes_lem (new_names c.read.laid c.bodies c.allowed c.short)

  pub journal_zeros : record_of h s journal_key ≡ free_record h 4
  journal_zeros = clear_zeros c.read c.clear
