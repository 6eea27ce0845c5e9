-- A consistent image and the record of its facts, both directions; it is readable. Assumes nothing.
use Rattle.std.specs.Prelude.{◌≡◌, refl, Bool, true, false, List, ℕ, ◌-◌, ◌≤◌, ◌<◌, eqb, ltb}
use Rattle.std.proofs.Math.Decide.{ℕ_discrete}
use Rattle.std.proofs.Common.{arith}
use borrow.Author.Tests.{eqb-true, eqb-false, not-true, not-false}
use Rattle.seq.specs.Truth.{and_left, and_right}
use Rattle.layout.specs.declared.Shape.{Shape}
use Rattle.layout.specs.Facts.{Laid, Read, Readable}
use Rattle.layout.specs.Contents.{shape_of}
use Rattle.layout.proofs.ContentsLaws.{good_laid}
use Rattle.layout.specs.View.{view_of, is_directory, entry_used}
use Rattle.layout.proofs.ViewLaws.{is_kind_below}
use Rattle.tree.proofs.TreeLaws.{reaches_field}
use Rattle.tree.specs.InodeFacts.{Directory}
use Rattle.consistency.specs.Consistent.{consistent, check_number}
use Rattle.consistency.proofs.ConsistentLaws.{checked_consistent}
use Rattle.consistency.specs.RecordFacts.{Bodies}
use Rattle.consistency.proofs.SoundFacts.{bodies_is, is_bodies}
use Rattle.consistency.specs.Facts.{Consistent}

pub consistent_is : (s : List ℕ) → consistent s ≡ true → Consistent s
unfolding consistent
consistent_is s e = record {
  layout = search (and_left, and_right);
  journal = search (and_left, and_right);
  bodies = bodies_is (shape_of s) s (search (and_left, and_right));
}

pub is_consistent : (s : List ℕ) → Consistent s → consistent s ≡ true
unfolding consistent
is_consistent s f = rw (f.layout, f.journal, is_bodies (shape_of s) s f.bodies)

-- A consistent image is readable.
module _ (h : Shape) (s : List ℕ) (laid : Laid h s) (f : Bodies h s) where
  short_names : (j : ℕ) → j < h.entries → (view_of h s).name_length j ≤ h.width - 8
  short_names j l = go (entry_used (view_of h s) j) refl
    where
      go : (b : Bool) → entry_used (view_of h s) j ≡ b → (view_of h s).name_length j ≤ h.width - 8
      go true u = ((f.entry j l).used u).short
      go false u = let z = eqb-true ((view_of h s).name_length j) 0 (not-false _ u) in omega arith

  parent_below : (i : ℕ) → is_directory (view_of h s) i ≡ true → (view_of h s).field i < h.inodes
  unfolding view_of
  parent_below i d = go (ℕ_discrete i 0)
    where
      below : i < h.inodes
      below = is_kind_below h s i 2 d

      facts : Directory (view_of h s) i
      facts = (f.inode i below).directory (eqb-true _ _ (and_right (ltb i h.inodes) (eqb ((view_of h s).kind i) 2) d))

      go : Dec (i ≡ 0) → (view_of h s).field i < h.inodes
      go (yes z) = let e = facts.own_parent z in omega (arith, laid.inodes_least)
      go (no n) = is_kind_below h s _ 2 (reaches_field (view_of h s) 0 h.inodes i (omega (arith, laid.inodes_least)) n (facts.leads_up_lem n))

  pub bodies_readable : Readable h s
  unfolding view_of
  bodies_readable = record {
    laid = laid;
    root = eqb-true _ _ (and_right (ltb 0 h.inodes) (eqb ((view_of h s).kind 0) 2) f.root);
    kinds = λ i l. (f.inode i l).kind;
    parents = λ j l u. ((f.entry j l).used u).linked.parent;
    targets = λ j l u. ((f.entry j l).used u).linked.target;
    names = short_names;
    above = parent_below;
    symlinks = λ i k. ((f.inode i (is_kind_below h s i 3 k)).symlink (eqb-true _ _ (and_right (ltb i h.inodes) (eqb ((view_of h s).kind i) 3) k))).text;
    texts = λ t l. (f.text t l).short;
    plain = λ t l. (f.text t l).bytes;
    handles = λ n l o. ((f.handle n l).opened (eqb-false ((view_of h s).state n) 0 (not-true _ o))).used;
  }

pub consistent_readable : (s : List ℕ) → consistent s ≡ true → Readable (shape_of s) s
consistent_readable s e = let f = consistent_is s e in bodies_readable (shape_of s) s (good_laid s f.layout) f.bodies

-- what the job check shows of an image that it passed
pub checked_readable : (s : List ℕ) (h : Shape) → Read s h → check_number s ≡ 0 → Readable h s
checked_readable s h r e = rw r.shape (consistent_readable s (checked_consistent s e))
