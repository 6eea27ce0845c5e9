-- What is known of the case where both walks are whole: its numbers name inodes in use, and a planned move, or exchange, lies in the image. Assumes nothing.
use Rattle.std.specs.Prelude.{◌≡◌, refl, ◌≢◌, Bool, true, false, ◌&&◌, not, List, ℕ, ◌+◌, ◌-◌, ◌≤◌, ◌<◌, eqb, length}
use Rattle.std.proofs.Common.{sym, ◌∙◌}
use Rattle.std.proofs.Math.Path.{ap}
use native.Mathlib.Omega.{arith}
use borrow.Author.Tests.{eq-eqb, leb-false}
use Rattle.seq.specs.Truth.{not_both}
use Rattle.layout.specs.declared.Shape.{Shape}
use Rattle.layout.specs.Limits.{absent}
use Rattle.layout.specs.Facts.{Readable}
use Rattle.layout.specs.View.{View, view_of, is_kind, is_used, is_symlink}
use Rattle.layout.proofs.ViewLaws.{is_used_below, is_kind_below}
use Rattle.paths.specs.declared.request.Request.{Request}
use Rattle.component.specs.Step.{Finding, existing, missing, nothing}
use Rattle.walk.specs.Ends.{Existing, Known, Numbered, Facts}
use Rattle.walk.specs.Both.{Ends, old_final, new_final}
use Rattle.refusals.specs.declared.case.Case.{Case}
use Rattle.refusals.specs.Case.{exists}
use Rattle.rename_steps.specs.Tests.{no_slot}
use Rattle.refusals.specs.CaseIn.{CaseIn}
use Rattle.recounts.specs.Recount.{entries_after}
use Rattle.results.specs.InImage.{InImage}
use Rattle.exchanges.specs.InImage.{BothInImage}
use Rattle.moves.specs.Plan.{move_with, freed_text, move_of, exchange_of}
use Rattle.rename.specs.Order.{directory_of, slot_of, inode_of, slash_of, name_of, case_of}
use Rattle.rename.specs.Answers.{NewFound, by_entry, by_name}

-- old's walk has found an entry
pub old_found : (v : View) (f : Finding) (n : ℕ) → Known v old_final f → Numbered n f → n ≡ 0 → Existing v (directory_of f) (slot_of v f) (inode_of f) (slash_of f)
old_found v (existing d j i slash) n known numbered z = known
old_found v (missing d name slash) n known numbered z = absurd (not_both true refl known.may)
old_found v nothing n known numbered z = absurd (numbered z)

pub new_found : (v : View) (f : Finding) (n : ℕ) → Known v new_final f → Numbered n f → n ≡ 0 → NewFound v f
new_found v (existing d j i slash) n known numbered z = by_entry known refl
new_found v (missing d name slash) n known numbered z = by_name refl refl known
new_found v nothing n known numbered z = absurd (numbered z)

-- a test that fails behind one that holds
behind_false : (a b : Bool) → (a && b) ≡ false → a ≡ true → b ≡ false
behind_false true b e h = e
behind_false false b e h = absurd (not_both false h refl)

-- a text that is freed belongs to a symlink
pub freed_link : (v : View) (c : Case) (time : ℕ) → freed_text v c time ≢ absent → (is_symlink v c.replaced ≡ true) × (freed_text v c time ≡ v.field c.replaced)
freed_link v c time some = go (is_symlink v c.replaced) (eqb (entries_after v (move_with c time absent) c.replaced) 0) refl refl
  where
    go : (a b : Bool) → is_symlink v c.replaced ≡ a → eqb (entries_after v (move_with c time absent) c.replaced) 0 ≡ b
        → (is_symlink v c.replaced ≡ true) × (freed_text v c time ≡ v.field c.replaced)
    go true true e f = (e, rw (e, f))
    go true false e f = absurd (some (rw (e, f)))
    go false b e f = absurd (some (rw e))

module _ (h : Shape) (s : List ℕ) (r : Readable h s) (q : Request) (e : Ends) (old : Facts (view_of h s) old_final e.old)
    (new : Facts (view_of h s) new_final e.new) (walked : e.old.number ≡ 0) (also : e.new.number ≡ 0) where
  abbrev v : View
  v = view_of h s

  abbrev c : Case
  c = case_of v q e

  first : Existing v c.from c.old c.moved (slash_of e.old.found)
  first = old_found v e.old.found e.old.number old.known old.numbered walked

  second : NewFound v e.new.found
  second = new_found v e.new.found e.new.number new.known new.numbered also

  target_used_lem : (d j i : ℕ) (slash : Bool) → Existing v d j i slash → is_used v i ≡ true
  unfolding view_of
  target_used_lem d j i slash x = rw (← x.target) (r.targets j x.below x.used)

  into_directory : NewFound v e.new.found → is_kind v c.into 2 ≡ true
  into_directory (by_entry x _) = x.directory
  into_directory (by_name _ _ x) = x.directory

  replaced_used : NewFound v e.new.found → c.replaced ≢ absent → is_used v c.replaced ≡ true
  replaced_used (by_entry x _) some = target_used_lem _ _ _ _ x
  replaced_used (by_name none _ _) some = absurd (some none)

  pub case_in : CaseIn v c
  case_in = record {
    moved = target_used_lem _ _ _ _ first;
    from = first.directory;
    into = into_directory second;
    replaced = replaced_used second;
  }

  -- a name that was missing fits an entry
  name_fits_lem : NewFound v e.new.found → length (name_of e.new.found) ≤ h.width - 8
  unfolding view_of
  name_fits_lem (by_entry _ none) = omega arith
  name_fits_lem (by_name _ _ x) = x.short

  pub called_fits : 8 + length (name_of e.new.found) ≤ h.width
  called_fits = let l = name_fits_lem second in omega (arith, r.laid.width_least)

  -- the new slot, and so the whole move, lies in the image
  new_below : no_slot v c ≡ false → NewFound v e.new.found → c.new < h.entries
  unfolding view_of
  new_below slot (by_entry x _) = x.below
  new_below slot (by_name none _ _) = leb-false _ _ (behind_false (not (exists c)) _ slot (rw (eq-eqb c.replaced absent none)))

  pub move_in : (time : ℕ) → no_slot v c ≡ false → InImage h (move_of v c time)
  unfolding move_of view_of
  move_in time slot = record {
    old = first.below;
    new = new_below slot second;
    moved = is_used_below h s _ case_in.moved;
    from = is_kind_below h s _ 2 case_in.from;
    into = is_kind_below h s _ 2 case_in.into;
    replaced = λ some. is_used_below h s _ (case_in.replaced some);
    text = λ some. let (link, is) = freed_link v c time some in rw is (r.symlinks c.replaced link);
  }

  -- an exchange lies in the image: both slots were found, and they differ since their targets do
  slots_two : c.replaced ≢ absent → c.moved ≢ c.replaced → NewFound v e.new.found → (c.new < h.entries) × (c.old ≢ c.new)
  unfolding view_of
  slots_two some other (by_entry x _) = (x.below, λ z. other (sym first.target ∙ ap v.target z ∙ x.target))
  slots_two some other (by_name none _ _) = absurd (some none)

  pub exchange_in : (time : ℕ) → c.replaced ≢ absent → c.moved ≢ c.replaced → BothInImage h (exchange_of c time)
  unfolding view_of
  exchange_in time some other =
      let (below, apart) = slots_two some other second in
      record {
        slots = record { old = first.below; new = below; apart = apart };
        moved = is_used_below h s _ case_in.moved;
        from = is_kind_below h s _ 2 case_in.from;
        into = is_kind_below h s _ 2 case_in.into;
        replaced = is_used_below h s _ (case_in.replaced some);
      }
