-- A rename that passes the order of refusal is allowed: from the facts of both walks and the tests that did not hold. Assumes nothing.
use Rattle.std.specs.Prelude.{◌≡◌, refl, Bool, true, false, ◌&&◌, ◌||◌, cond, List, ℕ, ◌≤◌, ◌<◌}
use Rattle.std.proofs.Math.Path.{sym}
use Rattle.std.proofs.Common.{ap, ◌∙◌, arith}
use Rattle.std.proofs.Math.Bool.{not}
use Rattle.std.proofs.Math.Dec.{eqb}
use borrow.Author.Tests.{eqb-true, eqb-false, eq-eqb, ne_eqb, not-true, not-false, leb-false}
use Rattle.seq.specs.Truth.{not_both, refuted}
use Rattle.seq.proofs.SearchLaws.{first_passes}
use Rattle.layout.specs.Limits.{absent, inode_limit}
use Rattle.layout.specs.View.{View, is_directory, entry_used}
use Rattle.tree.specs.Tree.{entries_of}
use Rattle.edits.specs.Kinds.{EntryUsed}
use Rattle.edits.proofs.Tests.{kind_is, kind_test}
use Rattle.edits.specs.ConsistentView.{ConsistentView}
use Rattle.edits.specs.Moved.{Allowed}
use Rattle.edits.proofs.Refusals.{missing_of, not_above_of, empty_of, unopened_of}
use Rattle.paths.specs.declared.request.Request.{Request}
use Rattle.paths.specs.Lookup.{is_named}
use Rattle.paths.proofs.LookupLaws.{lookup_misses}
use Rattle.walk.specs.Ends.{Existing, Missing, Facts}
use Rattle.walk.specs.Both.{Ends, old_final, new_final}
use Rattle.refusals.specs.declared.case.Case.{Case}
use Rattle.refusals.specs.Case.{exists}
use Rattle.rename_steps.specs.Tests.{has_entries, is_opened}
use Rattle.rename_steps.specs.Passed.{Passed}
use Rattle.rename.specs.Order.{free_slot, directory_of, slot_of, inode_of, slash_of, name_of, case_of}
use Rattle.rename.specs.Answers.{NewFound, by_entry, by_name}
use Rattle.rename.proofs.Known.{old_found, new_found}
use Rattle.demands.specs.Allowed.{new_name, Granted}

-- an entry in use, from its test and back
pub used_entry : (v : View) (j : ℕ) → j < v.entries → entry_used v j ≡ true → EntryUsed v j
used_entry v j l u = (l, eqb-false _ _ (not-true (eqb (v.name_length j) 0) u))

-- the lowest free slot is not in use
free_unused : (v : View) → EntryUsed v (free_slot v) → ⊥
unfolding free_slot
free_unused v (l, u) =
    u (eqb-true _ _ (not-false _ (not-true _ (first_passes (λ j. not (entry_used v j)) v.entries l))))

-- tests that are false, one part after another
pub both_false : (a b : Bool) → (a && b) ≡ false → a ≡ true → b ≡ false
both_false true b e h = e
both_false false b e h = absurd (not_both false h refl)

either_false : (a b : Bool) → (a || b) ≡ false → b ≡ false
either_false true b e = absurd (not_both true refl e)
either_false false b e = e

module _ (v : View) (good : ConsistentView v) (few : v.inodes ≤ inode_limit) (c : Case) (called : List ℕ) (p : Passed v c)
    (slash₁ : Bool) (old : Existing v c.from c.old c.moved slash₁) where
  old_entry : EntryUsed v c.old
  old_entry = used_entry v c.old old.below old.used

  systems_agree : v.system c.from ≡ v.system c.into
  systems_agree = eqb-true _ _ (not-false _ p.one_system)

  -- where new's name exists
  module _ (slash : Bool) (new : Existing v c.into c.new c.replaced slash) where
    new_entry_lem : EntryUsed v c.new
    new_entry_lem = used_entry v c.new new.below new.used

    replaced_below : c.replaced < v.inodes
    replaced_below = rw new.target at (good.placed.entry c.new new_entry_lem).target.0

    pub named_exists : exists c ≡ true
    named_exists = rw (ne_eqb c.replaced absent (λ e. omega (arith, replaced_below)))

    kept_name : new_name v c called ≡ v.name c.new
    kept_name = ap (λ (b : Bool). cond b (v.name c.new) called) named_exists

    pub existing_allowed : Allowed v c.old c.new c.moved c.from c.into (new_name v c called)
    unfolding has_entries is_opened
    existing_allowed = record {
      old_used = old_entry;
      old_parent = old.parent;
      old_target = old.target;
      into_directory = kind_is v c.into 2 new.directory;
      new_parent = λ u. new.parent;
      new_name_lem = λ u. sym kept_name;
      missing = λ n. absurd (n new_entry_lem);
      other = λ u e. eqb-false _ _ p.other (sym e ∙ new.target);
      systems = systems_agree;
      not_above = not_above_of v good c.moved c.into (kind_is v c.into 2 new.directory) p.outside;
      alike = λ u d. rw new.target (kind_is v c.replaced 2 (not-false _ (both_false (is_directory v c.moved && exists c) _ p.types.other (rw (kind_test v c.moved 2 d, named_exists)))));
      empty = λ u d. rw new.target (empty_of v c.replaced (both_false (is_directory v c.replaced) _ p.empty (kind_test v c.replaced 2 (rw new.target at d))));
      unopened = λ u one. rw new.target (unopened_of v c.replaced (either_false (eqb c.replaced c.current) _
          (both_false (exists c && eqb (entries_of v c.replaced) 1) _ p.idle (rw (named_exists, eq-eqb (entries_of v c.replaced) 1 (rw new.target at one))))));
      room = λ d n none. absurd (none new_entry_lem);
      new_below = new.below;
    }

    pub existing_granted : Granted v c called
    existing_granted = record {
      allowed = existing_allowed;
      replaced = rw new.used (sym new.target);
      missing = λ e. absurd (omega (arith, replaced_below));
    }

  -- where it is missing
  module _ (none : c.replaced ≡ absent) (free : c.new ≡ free_slot v) (new : Missing v new_final c.into called) where
    pub named_missing : exists c ≡ false
    named_missing = rw (eq-eqb c.replaced absent none)

    made_name : new_name v c called ≡ called
    made_name = ap (λ (b : Bool). cond b (v.name c.new) called) named_missing

    unused : EntryUsed v c.new → ⊥
    unused u = free_unused v (rw free at u)

    slot_below : c.new < v.entries
    slot_below = leb-false _ _ (both_false (not (exists c)) _ p.slot (rw named_missing))

    pub missing_allowed : Allowed v c.old c.new c.moved c.from c.into (new_name v c called)
    unfolding is_named
    missing_allowed = record {
      old_used = old_entry;
      old_parent = old.parent;
      old_target = old.target;
      into_directory = kind_is v c.into 2 new.directory;
      new_parent = λ u. absurd (unused u);
      new_name_lem = λ u. absurd (unused u);
      missing = λ n. rw made_name (missing_of v c.into called (lookup_misses v c.into called new.lacks));
      other = λ u. absurd (unused u);
      systems = systems_agree;
      not_above = not_above_of v good c.moved c.into (kind_is v c.into 2 new.directory) p.outside;
      alike = λ u. absurd (unused u);
      empty = λ u. absurd (unused u);
      unopened = λ u. absurd (unused u);
      room = λ d n _. eqb-false _ _ (both_false (is_directory v c.moved && not (eqb c.from c.into) && not (exists c)) _ p.countable
          (rw (kind_test v c.moved 2 d, ne_eqb c.from c.into n, named_missing)));
      new_below = slot_below;
    }

    free_entry : entry_used v c.new ≡ false
    free_entry = refuted (entry_used v c.new) (λ u. unused (used_entry v c.new slot_below u))

    pub missing_granted : Granted v c called
    missing_granted = record { allowed = missing_allowed; replaced = none ∙ rw free_entry; missing = λ _. (sym made_name, new) }

-- Both walks whole, and no step that holds.
pub granted : (v : View) → ConsistentView v → v.inodes ≤ inode_limit → (q : Request) (e : Ends) → Facts v old_final e.old → Facts v new_final e.new
    → e.old.number ≡ 0 → e.new.number ≡ 0 → Passed v (case_of v q e) → Granted v (case_of v q e) (name_of e.new.found)
granted v good few q e old new walked also p = go (new_found v e.new.found e.new.number new.known new.numbered also)
  where
    first : Existing v (directory_of e.old.found) (slot_of v e.old.found) (inode_of e.old.found) (slash_of e.old.found)
    first = old_found v e.old.found e.old.number old.known old.numbered walked

    go : NewFound v e.new.found → Granted v (case_of v q e) (name_of e.new.found)
    go (by_entry x _) = existing_granted v good few (case_of v q e) (name_of e.new.found) p _ first _ x
    go (by_name none free x) = missing_granted v good few (case_of v q e) (name_of e.new.found) p _ first none free x
