-- The tables that one pass over the entries, or over the inodes, fills hold the counts of the rules. Assumes nothing.
use Rattle.std.specs.Prelude.{◌≡◌, refl, Bool, true, false, ◌&&◌, not, List, ℕ, ◌+◌, ◌<◌, eqb, ltb, leb, replicate}
use Rattle.std.proofs.Common.{sym, subst, ◌∙◌, arith, lt-ltb, le-ltb, le-leb}
use Rattle.std.proofs.lemmas.Bool.{lt-leb}
use Rattle.std.proofs.Math.Decide.{dec_lt}
use Rattle.seq.specs.Search.{any, first}
use Rattle.seq.proofs.SearchLaws.{count_same}
use Rattle.layout.specs.declared.Shape.{Shape}
use Rattle.layout.specs.Facts.{Laid}
use Rattle.layout.specs.Limits.{inode_limit, text_limit}
use Rattle.layout.specs.View.{view_of, entry_used, is_directory, is_symlink}
use Rattle.tables.specs.Table.{Table, tally, Firsts}
use Rattle.tables.specs.TableLaws.{table_same, tally_none, least_first, least_same, pick, any_first}
use Rattle.tree.specs.Tree.{entries_of, child_directories, has_text}
use Rattle.tallies.specs.Tallies.{target_slot, holder_slot, text_slot, Blank, EntryCounts, ChildCounts, TextOwners}

pub tally_blank : (key : ℕ → ℕ) (m : ℕ) (xs : List ℕ) → Blank m xs → Table (tally key 0) m xs
unfolding Blank
tally_blank key m xs e = subst (Table (tally key 0) m) (sym e) (tally_none key m)

pub blank : (m : ℕ) → Blank m (replicate m 0)
unfolding Blank
blank m = refl

swap : (a b c : Bool) → ((a && b) && c) ≡ (a && c && b)
swap true true true = refl
swap true true false = refl
swap true false true = refl
swap true false false = refl
swap false b c = refl

module _ (h : Shape) (s : List ℕ) (laid : Laid h s) where
  pub entry_counts_are : (xs : List ℕ) → Table (tally (target_slot (view_of h s)) h.entries) (inode_limit + 1) xs → EntryCounts h s xs
  unfolding view_of tally target_slot entries_of
  entry_counts_are xs t =
      table_same _ _ _ _ xs (omega (arith, laid.inodes_most)) (λ i l.
      count_same _ _ h.entries (λ k b. pick (entry_used (view_of h s) k) ((view_of h s).target k) h.inodes inode_limit i l laid.inodes_most)) t

  pub child_counts_are : (xs : List ℕ) → Table (tally (holder_slot (view_of h s)) h.entries) (inode_limit + 1) xs → ChildCounts h s xs
  unfolding view_of tally holder_slot child_directories
  child_counts_are xs t =
      table_same _ _ _ _ xs (omega (arith, laid.inodes_most)) (λ i l.
      count_same _ _ h.entries (λ k b.
      pick (entry_used (view_of h s) k && is_directory (view_of h s) ((view_of h s).target k)) ((view_of h s).parent k) h.inodes inode_limit i l laid.inodes_most
      ∙ swap (entry_used (view_of h s) k) (is_directory (view_of h s) ((view_of h s).target k)) (eqb ((view_of h s).parent k) i))) t

  pub text_owners_are : (xs : List ℕ) → Firsts (text_slot (view_of h s)) (text_limit + 1) 0 h.inodes xs → TextOwners h s xs
  unfolding view_of text_slot
  text_owners_are xs f = record {
    long = omega (arith, f.long, laid.texts_most);
    at = λ t l.
        least_first _ _ _
        (least_same _ _ _ _ _ (λ i. pick (is_symlink (view_of h s) i) ((view_of h s).field i) h.texts text_limit t l laid.texts_most)
        (f.at t (omega (arith, laid.texts_most))));
  }

-- no symlink before i has text t where the first that has it is none of those
pub unshared : (h : Shape) (s : List ℕ) (t i x : ℕ) → x ≡ first (has_text (view_of h s) t) h.inodes → i < h.inodes
    → leb i x ≡ not (any (has_text (view_of h s) t) i)
unshared h s t i x is below = rw (is, any_first (has_text (view_of h s) t) h.inodes i (omega arith)) (go (first (has_text (view_of h s) t) h.inodes) (dec_lt _ i))
  where
    go : (x : ℕ) → Dec (x < i) → leb i x ≡ not (ltb x i)
    go x (yes u) = rw (lt-ltb x i u, lt-leb i x u)
    go x (no u) = rw (le-ltb x i (omega arith), le-leb i x (omega arith))
