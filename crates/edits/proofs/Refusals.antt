-- The searches behind a rename's refusals, read as facts of an allowed rename. Assumes nothing.
use Rattle.std.specs.Prelude.{◌≡◌, ◌≢◌, false, ◌&&◌, List, ℕ, eqb}
use Rattle.std.proofs.Common.{eq-eqb, ne_eqb}
use Rattle.seq.specs.Search.{any}
use Rattle.seq.specs.Bytes.{equal_bytes}
use Rattle.seq.specs.Truth.{not_both}
use Rattle.seq.proofs.SearchLaws.{any_not}
use Rattle.seq.specs.Climb.{up}
use Rattle.seq.proofs.BytesLaws.{same_refl}
use Rattle.layout.specs.View.{View, entry_used, handle_open}
use Rattle.tree.specs.Tree.{reaches}
use Rattle.edits.specs.Kinds.{IsDirectory, EntryUsed, HandleOpen}
use Rattle.edits.proofs.WayUp.{no_way}
use Rattle.edits.specs.ConsistentView.{ConsistentView}
use Rattle.edits.proofs.ConsistentViewLaws.{parent_directory_lem}

module _ (v : View) where
  -- the lookup of new's name: no entry of the directory has it
  pub missing_of : (into : ℕ) (called : List ℕ) → any (λ j. entry_used v j && eqb (v.parent j) into && equal_bytes (v.name j) called) v.entries ≡ false
      → (j : ℕ) → EntryUsed v j → v.parent j ≡ into → v.name j ≢ called
  missing_of into called none j (l, u) p n =
      not_both _ (rw (ne_eqb _ _ u, eq-eqb _ _ p, n) (same_refl called)) (any_not _ v.entries none j l)

  -- step 7: the moved inode is not the new parent, nor above it
  pub not_above_of : ConsistentView v → (moved into : ℕ) → IsDirectory v into → reaches v moved v.inodes into ≡ false
      → (k : ℕ) → up v.field k into ≢ moved
  not_above_of good moved into d none = no_way v (parent_directory_lem v good.placed) moved into d none

  -- step 10: nothing lies in the replaced inode
  pub empty_of : (replaced : ℕ) → any (λ j. entry_used v j && eqb (v.parent j) replaced) v.entries ≡ false
      → (j : ℕ) → EntryUsed v j → v.parent j ≢ replaced
  empty_of replaced none j (l, u) p = not_both _ (rw (ne_eqb _ _ u, eq-eqb _ _ p)) (any_not _ v.entries none j l)

  -- step 11: no handle is open on the replaced inode
  pub unopened_of : (replaced : ℕ) → any (λ n. handle_open v n && eqb (v.opened n) replaced) v.handles ≡ false
      → (n : ℕ) → HandleOpen v n → v.opened n ≢ replaced
  unopened_of replaced none n (l, u) e = not_both _ (rw (ne_eqb _ _ u, eq-eqb _ _ e)) (any_not _ v.handles none n l)
