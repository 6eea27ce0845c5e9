-- What follows at once from a consistent view. Assumes nothing.
use Rattle.std.specs.Prelude.{◌≡◌, refl, ◌≢◌, ℕ, ◌+◌, ◌≤◌}
use Rattle.std.proofs.Common.{sym, ap, ◌∙◌, arith}
use Rattle.std.proofs.Math.Decide.{ℕ_discrete}
use Rattle.seq.proofs.CountLaws.{count_some, count_unique}
use Rattle.seq.specs.Climb.{up}
use Rattle.seq.proofs.ClimbLaws.{no_circle}
use Rattle.layout.specs.Limits.{link_limit}
use Rattle.layout.specs.View.{View}
use Rattle.tree.specs.Tree.{targets, entries_of, child_directories}
use Rattle.edits.specs.Kinds.{IsDirectory, EntryUsed}
use Rattle.edits.proofs.KindsLaws.{directory_used}
use Rattle.edits.proofs.Tests.{targets_is, is_targets}
use Rattle.edits.specs.ConsistentView.{Placed, ConsistentView}

module _ (v : View) (placed : Placed v) where
  -- a directory other than the root has an entry
  entry_of : (i : ℕ) → IsDirectory v i → i ≢ 0 → (j : ℕ) × EntryUsed v j × (v.target j ≡ i)
  unfolding entries_of
  entry_of i d n =
      let (j, l, t) = count_some (targets v i) v.entries (omega (arith, placed.one_entry i d n)) in
      let (u, e) = targets_is v i j t in
      (j, (l, u), e)

  -- so its field names a directory, and so does the root's
  pub parent_directory_lem : (i : ℕ) → IsDirectory v i → IsDirectory v (v.field i)
  parent_directory_lem i d = go (ℕ_discrete i 0)
    where
      go : Dec (i ≡ 0) → IsDirectory v (v.field i)
      go (yes e) = rw (ap v.field e ∙ placed.top) placed.root
      go (no n) =
          let (j, u, e) = entry_of i d n in
          let f : v.field i ≡ v.parent j = ap v.field (sym e) ∙ (placed.entry j u).above (rw e d) in
          rw f (placed.entry j u).parent

  -- a directory that an entry names has no other entry
  pub only_entry : (j k : ℕ) → EntryUsed v j → IsDirectory v (v.target j) → EntryUsed v k → v.target k ≡ v.target j → k ≡ j
  unfolding entries_of
  only_entry j k (lj, uj) d (lk, uk) e =
      count_unique (targets v (v.target j)) v.entries (placed.one_entry (v.target j) d (placed.entry j (lj, uj)).below_root) k j lk lj
      (is_targets v _ k uk e) (is_targets v _ j uj refl)

-- no directory is the one that holds it, nor above it
pub not_above_parent : (v : View) → ConsistentView v → (j : ℕ) → EntryUsed v j → IsDirectory v (v.target j) → (k : ℕ) → up v.field k (v.parent j) ≢ v.target j
unfolding up
not_above_parent v good j u d k e =
    let l = good.placed.entry j u in
    let (n, way) = good.leads (v.target j) d in
    l.below_root (no_circle v.field 0 (v.target j) k good.placed.top (ap (up v.field k) (l.above d) ∙ e) n way)

-- no entry names the directory that it lies in
pub not_own_parent : (v : View) → ConsistentView v → (j : ℕ) → EntryUsed v j → v.target j ≢ v.parent j
unfolding up
not_own_parent v good j u e = not_above_parent v good j u (rw e (good.placed.entry j u).parent) 0 (sym e)

-- no directory has more child directories than its link count can say
pub children_limit : (v : View) → ConsistentView v → (d : ℕ) → IsDirectory v d → 2 + child_directories v d ≤ link_limit
children_limit v good d h = omega (arith, good.counted.children d h, good.counted.within d (directory_used v d h))
