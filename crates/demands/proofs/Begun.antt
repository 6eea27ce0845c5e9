-- What is known where nothing is refused before the walks: a consistent image, a good request, and the facts of both walks. Assumes nothing.
use Rattle.std.specs.Prelude.{◌≡◌, refl, Bool, true, cond, List, ℕ, ◌≤◌, length}
use Rattle.std.proofs.Common.{sym, ltb-false, eq-eqb, ne_eqb}
use Rattle.std.proofs.Math.Path.{subst}
use Rattle.std.proofs.Math.Decide.{ℕ_discrete}
use Rattle.std.proofs.lemmas.Bool.{not-false}
use Rattle.seq.specs.Bytes.{no_zero}
use Rattle.layout.specs.declared.Shape.{Shape}
use Rattle.layout.specs.Facts.{Read}
use Rattle.layout.specs.Contents.{layout_good, shape_of}
use Rattle.layout.proofs.ContentsLaws.{good_laid}
use Rattle.layout.specs.View.{View, view_of, is_symlink}
use Rattle.layout.proofs.ViewLaws.{readable_text}
use Rattle.consistency.specs.Sound.{journal_clear}
use Rattle.consistency.specs.RecordFacts.{Bodies}
use Rattle.consistency.proofs.SoundFacts.{bodies_is}
use Rattle.consistency.proofs.FactLaws.{bodies_readable}
use Rattle.paths.specs.declared.request.Request.{Request}
use Rattle.paths.specs.Request.{request_good}
use Rattle.paths.proofs.RequestLaws.{good_old, good_new}
use Rattle.walk.specs.Walk.{halt}
use Rattle.walk.specs.Ends.{Facts}
use Rattle.walk.proofs.EndLaws.{walk_facts}
use Rattle.walk.specs.Both.{old_final, new_final, old_walk, new_walk, new_after, walks_of}
use Rattle.refusals.specs.Answered.{Planned}
use Rattle.refusals.specs.Rules.{decide}
use Rattle.refusals.specs.Passes.{Passes}
use Rattle.refusals.proofs.PassesLaws.{passes}
use Rattle.plan.specs.Form.{plan_bytes}
use Rattle.rename.specs.Order.{walks, early}

module _ (s plan : List ℕ) (q : Request) (old new : List ℕ) (begun : decide (early s plan q old new) ≡ Planned) where
  abbrev h : Shape
  h = shape_of s

  abbrev v : View
  v = view_of h s

  passed : Passes (early s plan q old new)
  passed = passes (early s plan q old new) refl begun

  pub long : plan_bytes ≤ length plan
  long = ltb-false _ _ passed.0

  pub begun_read : Read s h
  begun_read = let g = not-false (layout_good s) passed.1.0 in record { good = g; shape = refl; laid = good_laid s g }

  pub clear : journal_clear h s ≡ true
  clear = not-false _ passed.1.1.0

  pub bodies : Bodies h s
  bodies = bodies_is h s (not-false _ passed.1.1.1.0)

  request : request_good v q old new ≡ true
  request = not-false _ passed.1.1.1.1.0

  texts : (i : ℕ) → is_symlink v i ≡ true → no_zero (v.text (v.field i)) ≡ true
  texts = readable_text h s (bodies_readable h s begun_read.laid bodies)

  -- the facts of both walks
  first_facts : Facts v old_final (old_walk v q old)
  first_facts = walk_facts v old_final texts q.who q.current q.starts.old old (good_old v q old new request)

  pub old_facts : Facts v old_final (walks s plan q old new).old
  unfolding walks_of
  old_facts = first_facts

  pub new_facts : Facts v new_final (walks s plan q old new).new
  unfolding walks_of
  new_facts = go (ℕ_discrete (old_walk v q old).number 0)
    where
      go : Dec ((old_walk v q old).number ≡ 0) → Facts v new_final (new_after v q (old_walk v q old).number new)
      go (yes z) =
          subst (λ (b : Bool). Facts v new_final (cond b (new_walk v q new) (halt (old_walk v q old).number))) (sym (eq-eqb _ 0 z))
          (walk_facts v new_final texts q.who q.current q.starts.new new (good_new v q old new request))
      go (no n) =
          subst (λ (b : Bool). Facts v new_final (cond b (new_walk v q new) (halt (old_walk v q old).number))) (sym (ne_eqb _ 0 n))
          (record { known = tt; numbered = n; listed = first_facts.listed })
