-- What the code asks of the bodies, by type and state, is the rules one by one. Assumes nothing.
use Rattle.std.specs.Prelude.{◌≡◌, refl, Bool, true, false, ◌&&◌, not, List, [], ◌∷◌, ℕ, ◌<◌}
use Rattle.std.proofs.Common.{sym, ◌∙◌}
use Rattle.std.proofs.Math.Bool.{and-false}
use Rattle.std.proofs.lemmas.Bool.{not-true}
use Rattle.seq.specs.Search.{all, all_pass}
use Rattle.seq.specs.Truth.{one_truth, and_left, and_right}
use Rattle.seq.proofs.SearchLaws.{any_not, any_false, all_at, all_of}
use Rattle.layout.specs.declared.Shape.{Shape}
use Rattle.layout.specs.Contents.{shape_of, layout_good}
use Rattle.layout.specs.View.{view_of, is_directory}
use Rattle.names.specs.Name.{clash}
use Rattle.names.specs.NameTests.{has_duplicate}
use Rattle.tree.specs.Inode.{inode_good}
use Rattle.tree.proofs.InodeFactLaws.{inode_is, is_inode}
use Rattle.consistency.specs.Entry.{entry_good}
use Rattle.consistency.specs.Others.{text_good, handle_good}
use Rattle.consistency.specs.Sound.{journal_clear, bodies_good, sound_rules}
use Rattle.consistency.specs.Consistent.{consistent}
use Rattle.consistency.specs.RecordFacts.{Bodies}
use Rattle.consistency.proofs.RecordFactLaws.{entry_is, is_entry, text_is, is_text, handle_is, is_handle}
use Rattle.consistency.proofs.SoundFacts.{bodies_is, is_bodies}
use Rattle.consistency.specs.Checked.{bodies_checked}

-- A consistent image is one that every rule passes.
pub consistent_rules : (s : List ℕ) → consistent s ≡ all_pass (sound_rules s)
unfolding consistent
consistent_rules s = go (layout_good s) (journal_clear (shape_of s) s) (bodies_good (shape_of s) s)
  where
    go : (a b c : Bool) → (a && b && c) ≡ all_pass (a ∷ b ∷ c ∷ [])
    go true true true = refl
    go true true false = refl
    go true false c = refl
    go false b c = refl

module _ (h : Shape) (s : List ℕ) where
  distinct_is : has_duplicate (view_of h s) ≡ false → (i j : ℕ) → i < j → j < h.entries → clash (view_of h s) i j ≡ false
  unfolding has_duplicate view_of
  distinct_is e i j l m = any_not _ j (any_not _ h.entries e j m) i l

  is_distinct : ((i j : ℕ) → i < j → j < h.entries → clash (view_of h s) i j ≡ false) → has_duplicate (view_of h s) ≡ false
  unfolding has_duplicate view_of
  is_distinct f = any_false _ h.entries (λ j m. any_false _ j (λ i l. f i j l m))

  checked_is : bodies_checked h s ≡ true → Bodies h s
  unfolding bodies_checked
  checked_is e = record {
    root = search (and_left, and_right);
    inode = λ i l. inode_is h s i (all_at (inode_good h s) h.inodes (search (and_left, and_right)) i l);
    entry = λ j l. entry_is h s j (all_at (entry_good h s) h.entries (search (and_left, and_right)) j l);
    distinct = distinct_is (not-true (has_duplicate (view_of h s)) (search (and_left, and_right)));
    text = λ t l. text_is h s t (all_at (text_good h s) h.texts (search (and_left, and_right)) t l);
    handle = λ n l. handle_is h s n (all_at (handle_good h s) h.handles (search (and_left, and_right)) n l);
  }

  is_checked : Bodies h s → bodies_checked h s ≡ true
  unfolding bodies_checked
  is_checked f =
      rw (
        f.root,
        all_of (inode_good h s) h.inodes (λ i l. is_inode h s i (f.inode i l)),
        all_of (entry_good h s) h.entries (λ j l. is_entry h s j (f.entry j l)),
        is_distinct f.distinct,
        all_of (text_good h s) h.texts (λ t l. is_text h s t (f.text t l)),
        all_of (handle_good h s) h.handles (λ n l. is_handle h s n (f.handle n l)),
      )

  -- what the code asks is what the rules ask
  pub bodies_same : bodies_checked h s ≡ bodies_good h s
  bodies_same = one_truth _ _ (λ e. is_bodies h s (checked_is e)) (λ e. is_checked (bodies_is h s e))

  -- the rules, in the order in which the code asks
  pub bodies_asked : bodies_good h s
      ≡ (is_directory (view_of h s) 0 && all (inode_good h s) h.inodes && all (entry_good h s) h.entries && not (has_duplicate (view_of h s))
      && all (text_good h s) h.texts && all (handle_good h s) h.handles)
  unfolding bodies_checked
  bodies_asked = sym bodies_same

  -- ---- the ways out of the code, one test after another

  answer_by : {b : Bool} → b ≡ bodies_checked h s → b ≡ bodies_good h s
  answer_by e = e ∙ bodies_same

  pub out_root : is_directory (view_of h s) 0 ≡ false → false ≡ bodies_good h s
  unfolding bodies_checked
  out_root e = answer_by (rw e)

  pub out_inodes : all (inode_good h s) h.inodes ≡ false → false ≡ bodies_good h s
  unfolding bodies_checked
  out_inodes e = answer_by (simp (and-false, e))

  pub out_entries : all (entry_good h s) h.entries ≡ false → false ≡ bodies_good h s
  unfolding bodies_checked
  out_entries e = answer_by (simp (and-false, e))

  pub out_names : has_duplicate (view_of h s) ≡ true → false ≡ bodies_good h s
  unfolding bodies_checked
  out_names e = answer_by (simp (and-false, e))

  pub out_texts : all (text_good h s) h.texts ≡ false → false ≡ bodies_good h s
  unfolding bodies_checked
  out_texts e = answer_by (simp (and-false, e))

  pub out_handles : is_directory (view_of h s) 0 ≡ true → all (inode_good h s) h.inodes ≡ true → all (entry_good h s) h.entries ≡ true
      → has_duplicate (view_of h s) ≡ false → all (text_good h s) h.texts ≡ true → (b : Bool) → b ≡ all (handle_good h s) h.handles → b ≡ bodies_good h s
  unfolding bodies_checked
  out_handles root inodes entries names texts b e = answer_by (rw (root, inodes, entries, names, texts) e)
