-- An exchange that the job plans is one whose rows are well formed: from the job's own answer to all that its outcome rests on. Assumes nothing.
use Rattle.std.specs.Prelude.{◌≡◌, refl, ◌≢◌, Bool, true, false, ◌&&◌, not, List, ℕ, ◌≤◌, ◌<◌, eqb, length}
use Rattle.std.proofs.Common.{sym, ap, ◌∙◌, eqb-true, ne_eqb}
use Rattle.std.proofs.lemmas.Bool.{eqb-false, not-false}
use Rattle.seq.specs.Number.{span}
use Rattle.seq.specs.Truth.{not_both, refuted}
use Rattle.layout.specs.declared.Shape.{Shape}
use Rattle.layout.specs.Limits.{absent, link_limit}
use Rattle.layout.specs.Contents.{shape_of}
use Rattle.layout.specs.View.{View, view_of, is_directory}
use Rattle.tree.specs.Tree.{reaches}
use Rattle.consistency.specs.RecordFacts.{Bodies}
use Rattle.edits.proofs.Tests.{kind_is, kind_test}
use Rattle.edits.specs.ConsistentView.{ConsistentView}
use Rattle.edits.specs.Exchanged.{Side, Exchangeable}
use Rattle.edits.proofs.Bodies.{bodies_consistent}
use Rattle.edits.proofs.Refusals.{not_above_of}
use Rattle.paths.specs.declared.request.Request.{Request}
use Rattle.paths.specs.Flags.{exchange_flag}
use Rattle.component.specs.Step.{Finding, existing, missing, nothing}
use Rattle.walk.specs.Ends.{Existing, Known, Numbered}
use Rattle.walk.specs.Both.{old_final}
use Rattle.refusals.specs.Answered.{Planned, Exchanged}
use Rattle.refusals.specs.declared.case.Case.{Case}
use Rattle.refusals.specs.Rules.{decide}
use Rattle.exchange_steps.specs.Exchange.{exchange_steps}
use Rattle.refusals.specs.Passes.{is_exchanged}
use Rattle.exchange_steps.specs.ExchangePassed.{ExchangePassed}
use Rattle.exchange_steps.specs.ExchangePassedLaws.{exchange_passed}
use Rattle.plan.specs.Form.{plan_bytes}
use Rattle.rename.specs.Order.{directory_of, slot_of, inode_of, slash_of, walks, early}
use Rattle.rename.specs.Job.{answer, case, exchange}
use Rattle.rename.specs.Answers.{NewFound, by_entry, by_name}
use Rattle.rename.proofs.FlagLaws.{exchanged_steps}
use Rattle.rename.proofs.Known.{old_found, new_found}
use Rattle.exchange_outcome.specs.Paired.{Paired}
use Rattle.demands.specs.AllowedLaws.{used_entry, both_false}
use Rattle.demands.proofs.Begun.{long, begun_read, clear, bodies, old_facts, new_facts}
use Rattle.demands.proofs.Reached.{begun, old_whole, new_whole, by_case}

-- one side: the slot `here` of directory `own` names an inode, `other` is what the other slot names and `there` its directory
side_of_lem : (v : View) → ConsistentView v → (here inode own other there : ℕ) (slash apart : Bool) → Existing v own here inode slash → is_directory v there ≡ true
    → reaches v inode v.inodes there ≡ false → (own ≢ there → apart ≡ true)
    → (is_directory v inode && apart && not (is_directory v other) && eqb (v.links there) link_limit) ≡ false
    → Side v here inode own other there
side_of_lem v good here inode own other there slash apart x directory above differ full = record {
  used = used_entry v here x.below x.used;
  parent = x.parent;
  target = x.target;
  not_above = not_above_of v good inode there (kind_is v there 2 directory) above;
  room = λ d n k. eqb-false _ _ (both_false (is_directory v inode && apart && not (is_directory v other)) _ full
      (rw (kind_test v inode 2 d, differ k, refuted (is_directory v other) (λ t. n (kind_is v other 2 t)))));
}

-- a walk that found an entry found what its parts say
old_entry : (v : View) (f : Finding) (n : ℕ) → Known v old_final f → Numbered n f → n ≡ 0 → f ≡ existing (directory_of f) (slot_of v f) (inode_of f) (slash_of f)
old_entry v (existing d j i slash) n known numbered z = refl
old_entry v (missing d name slash) n known numbered z = absurd (not_both true refl known.may)
old_entry v nothing n known numbered z = absurd (numbered z)

new_entry_lem : (v : View) (f : Finding) → inode_of f ≢ absent → f ≡ existing (directory_of f) (slot_of v f) (inode_of f) (slash_of f)
new_entry_lem v (existing d j i slash) some = refl
new_entry_lem v (missing d name slash) some = absurd (some refl)
new_entry_lem v nothing some = absurd (some refl)

module _ (s plan : List ℕ) (q : Request) (old new : List ℕ) (planned : answer s plan q old new ≡ Exchanged) where
  abbrev h : Shape
  h = shape_of s

  abbrev v : View
  v = view_of h s

  abbrev c : Case
  c = case s plan q old new

  abbrev is : is_exchanged (answer s plan q old new) ≡ true
  is = ap is_exchanged planned

  -- nothing was refused before the walks
  abbrev start : decide (early s plan q old new) ≡ Planned
  start = begun s plan q old new is_exchanged refl is

  steps_passed : (decide (exchange_steps v c) ≡ Exchanged) × (c.replaced ≢ absent) × (q.flags ≡ exchange_flag)
  steps_passed = exchanged_steps v q c (sym (by_case s plan q old new is_exchanged refl is) ∙ planned)

  pub exchange_asked : q.flags ≡ exchange_flag
  exchange_asked = steps_passed.2

  passed : ExchangePassed v c
  passed = exchange_passed v c steps_passed.0

  -- both walks have found an entry
  first_found : Existing v c.from c.old c.moved (slash_of (walks s plan q old new).old.found)
  first_found =
      let f = old_facts s plan q old new start in
      old_found v (walks s plan q old new).old.found _ f.known f.numbered (old_whole s plan q old new is_exchanged refl is)

  second_found : Existing v c.into c.new c.replaced (slash_of (walks s plan q old new).new.found)
  second_found =
      let f = new_facts s plan q old new start in
      go (new_found v (walks s plan q old new).new.found _ f.known f.numbered (new_whole s plan q old new is_exchanged refl is))
    where
      go : NewFound v (walks s plan q old new).new.found → Existing v c.into c.new c.replaced (slash_of (walks s plan q old new).new.found)
      go (by_entry x _) = x
      go (by_name none _ _) = absurd (steps_passed.1 none)

  pub found_old : (walks s plan q old new).old.found ≡ existing c.from c.old c.moved (slash_of (walks s plan q old new).old.found)
  found_old =
      let f = old_facts s plan q old new start in
      old_entry v (walks s plan q old new).old.found _ f.known f.numbered (old_whole s plan q old new is_exchanged refl is)

  pub found_new : (walks s plan q old new).new.found ≡ existing c.into c.new c.replaced (slash_of (walks s plan q old new).new.found)
  found_new = new_entry_lem v (walks s plan q old new).new.found steps_passed.1

  abbrev image : Bodies h s
  image = bodies s plan q old new start

  allowed : Exchangeable v c.old c.new c.moved c.from c.replaced c.into
  allowed =
      let good = bodies_consistent image in
      record {
        first = side_of_lem v good c.old c.moved c.from c.replaced c.into _ (not (eqb c.from c.into)) first_found second_found.directory
            passed.outside (λ n. rw (ne_eqb _ _ n)) passed.into_room;
        second = side_of_lem v good c.new c.replaced c.into c.moved c.from _ (not (eqb c.from c.into)) second_found first_found.directory
            passed.above (λ n. rw (ne_eqb _ _ (λ e. n (sym e)))) passed.from_room;
        other = eqb-false _ _ passed.other;
        systems = eqb-true _ _ (not-false _ passed.one_system);
      }

  -- The buffer holds a plan.
  pub exchange_long : plan_bytes ≤ length plan
  exchange_long = long s plan q old new start

  -- All that the outcome of the exchange rests on.
  pub exchange_paired : q.now < span 8 → Paired h s (exchange s plan q old new)
  exchange_paired time = record {
    read = begun_read s plan q old new start;
    bodies = image;
    clear = clear s plan q old new start;
    allowed = allowed;
    text = refl;
    time = time;
  }
