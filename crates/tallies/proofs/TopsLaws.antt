-- The fields of directories lead to the root exactly where the steps up do, and so the rounds tell. Assumes nothing.
use Rattle.std.specs.Prelude.{◌≡◌, ◌≢◌, Bool, ◌&&◌, ◌||◌, List, get_or}
use Rattle.std.proofs.Math.Path.{refl}
use Rattle.std.proofs.Common.{sym, ◌∙◌, arith, eqb-true, eq-eqb, ne_eqb}
use Rattle.std.proofs.Math.Bool.{true, false, cond}
use Prim.Native.Nat.{ℕ, zero, suc, ◌≤◌, ◌<◌}
use Rattle.std.proofs.Math.Decide.{ℕ_discrete}
use Rattle.std.proofs.Math.Dec.{eqb}
use Rattle.seq.specs.Climb.{up}
use Rattle.seq.proofs.ClimbLaws.{stays}
use Rattle.seq.specs.Truth.{same_truth}
use Rattle.layout.specs.declared.Shape.{Shape}
use Rattle.layout.specs.View.{View, view_of, is_directory}
use Rattle.layout.proofs.ViewLaws.{is_kind_below}
use Rattle.tree.specs.Tree.{reaches}
use Rattle.tallies.specs.Rounds.{Rooted, Climbed}
use Rattle.tallies.proofs.RoundsLaws.{far_root, root_far}
use Rattle.tallies.specs.Tallies.{above, Tops}

module _ (v : View) where
  pub above_root : (i : ℕ) → i ≡ 0 → above v i ≡ 0
  unfolding above
  above_root i e = rw (eq-eqb _ _ e)

  pub above_none : (i : ℕ) → is_directory v i ≡ false → above v i ≡ 0
  unfolding above
  above_none i d = go (ℕ_discrete i 0)
    where
      go : Dec (i ≡ 0) → cond (eqb i 0) 0 (cond (is_directory v i) (cond (is_directory v (v.field i)) (v.field i) i) 0) ≡ 0
      go (yes e) = rw (eq-eqb _ _ e)
      go (no e) = rw (ne_eqb _ _ e, d)

  pub above_on : (i : ℕ) → i ≢ 0 → is_directory v i ≡ true → is_directory v (v.field i) ≡ true → above v i ≡ v.field i
  unfolding above
  above_on i e d u = rw (ne_eqb _ _ e, d, u)

  pub above_out : (i : ℕ) → i ≢ 0 → is_directory v i ≡ true → is_directory v (v.field i) ≡ false → above v i ≡ i
  unfolding above
  above_out i e d u = rw (ne_eqb _ _ e, d, u)

  -- the fields lead from a directory to the root where the steps end there
  reaches_up : (n i : ℕ) → is_directory v i ≡ true → reaches v 0 n i ≡ eqb (up (above v) n i) 0
  unfolding reaches up
  reaches_up zero i d = refl
  reaches_up (suc n) i d = go (ℕ_discrete i 0) (is_directory v (v.field i)) refl (reaches_up n (v.field i))
    where
      go : Dec (i ≡ 0) → (b : Bool) → is_directory v (v.field i) ≡ b
          → (is_directory v (v.field i) ≡ true → reaches v 0 n (v.field i) ≡ eqb (up (above v) n (v.field i)) 0)
          → (eqb i 0 || is_directory v (v.field i) && reaches v 0 n (v.field i)) ≡ eqb (up (above v) n (above v i)) 0
      go (yes e) b z rest = rw (eq-eqb _ _ e, above_root i e, stays (above v) 0 n (above_root 0 refl))
      go (no e) true z rest = rw (ne_eqb _ _ e, z, above_on i e d z) (rest z)
      go (no e) false z rest = rw (ne_eqb _ _ e, z, above_out i e d z, stays (above v) i n (above_out i e d z)) (sym (ne_eqb _ _ e))

module _ (h : Shape) (s : List ℕ) where
  -- the way up does not leave the inodes
  pub above_in : (i : ℕ) → i < h.inodes → above (view_of h s) i < h.inodes
  above_in i l = go (ℕ_discrete i 0) (is_directory (view_of h s) i) refl (is_directory (view_of h s) ((view_of h s).field i)) refl
    where
      go : Dec (i ≡ 0) → (d : Bool) → is_directory (view_of h s) i ≡ d → (u : Bool) → is_directory (view_of h s) ((view_of h s).field i) ≡ u
          → above (view_of h s) i < h.inodes
      go (yes e) d y u z = rw (above_root (view_of h s) i e) (omega arith)
      go (no e) false y u z = rw (above_none (view_of h s) i y) (omega arith)
      go (no e) true y true z = rw (above_on (view_of h s) i e y z) (is_kind_below h s _ 2 z)
      go (no e) true y false z = rw (above_out (view_of h s) i e y z) l

  -- rounds whose places are at the root wherever the way leads there tell where it does
  tops_are : (size : ℕ) (xs : List ℕ) → Climbed (above (view_of h s)) size h.inodes xs
      → ((i : ℕ) → i < h.inodes → up (above (view_of h s)) h.inodes i ≡ 0 → get_or xs i 0 ≡ 0) → Tops h s xs
  tops_are size xs c there = record {
    long = c.long;
    at = λ i l d. same_truth (eqb (get_or xs i 0) 0) (reaches (view_of h s) 0 h.inodes i)
        (λ e. reaches_up (view_of h s) h.inodes i d ∙ eq-eqb _ _ (root i l (eqb-true _ _ e)))
        (λ e. eq-eqb _ _ (there i l (eqb-true _ _ (sym (reaches_up (view_of h s) h.inodes i d) ∙ e))));
  }
    where
      root : (i : ℕ) → i < h.inodes → get_or xs i 0 ≡ 0 → up (above (view_of h s)) h.inodes i ≡ 0
      root i l z = far_root (above (view_of h s)) h.inodes above_in (above_root (view_of h s) 0 refl) size i l (rw z at (c.at i l))

  -- all have gone as many steps as there are inodes, or all are at the root
  pub tops_far : (size : ℕ) (xs : List ℕ) → h.inodes ≤ size → Climbed (above (view_of h s)) size h.inodes xs → Tops h s xs
  tops_far size xs l c =
      tops_are size xs c (λ i b r.
      root_far (above (view_of h s)) h.inodes above_in (above_root (view_of h s) 0 refl) size i (get_or xs i 0) l r (c.at i b))

  pub tops_rooted : (size : ℕ) (xs : List ℕ) → Rooted h.inodes xs → Climbed (above (view_of h s)) size h.inodes xs → Tops h s xs
  tops_rooted size xs r c = tops_are size xs c (λ i b _. r i b)
