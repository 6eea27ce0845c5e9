-- Images on the way of a rename: each record but the journal's is as before or as finished, and the results are the rename's own. Assumes nothing.
use Rattle.std.specs.Prelude.{◌≡◌, List, ℕ, ◌<◌}
use Rattle.std.proofs.Math.Path.{ap}
use Rattle.std.proofs.Common.{◌∙◌}
use Rattle.std.proofs.Math.Logic.{inl, inr, ⊎_elim}
use Rattle.layout.specs.declared.Shape.{Shape}
use Rattle.layout.specs.Fields.{inode_kind}
use Rattle.layout.specs.View.{view_of, inode_at}
use Rattle.recounts.specs.declared.Move.{Move}
use Rattle.results.specs.Results.{holder_after, results}
use Rattle.results.proofs.Again.{holder_kind}
use Rattle.afresh.specs.Afresh.{PartWay}
use Rattle.afresh.proofs.AfreshLaws.{results_same}
use Rattle.image_store.specs.Mixed.{Mixed}
use Rattle.image_store.proofs.MixedLaws.{inode_mixed, inode_either, entry_stays}
use Rattle.outcome.specs.Outcome.{finished}
use Rattle.outcome.specs.Called.{Called}
use Rattle.outcome.proofs.CalledLaws.{in_image}
use Rattle.outcome.proofs.Finished.{moved_written, from_written, into_written, replaced_written, entry_kept}
use Rattle.outcome.proofs.Consistent.{finished_agrees}

module _ {h : Shape} {s : List ℕ} {m : Move} {called : List ℕ} (c : Called h s m called) {x : List ℕ} (mixed : Mixed h s (finished h s m called) x) where
  pub mixed_way : PartWay h s x m
  unfolding view_of
  mixed_way = record {
    entry = λ j l a b. entry_stays mixed j l (entry_kept c j l a b);
    moved = inode_either mixed m.moved _ (in_image c).moved (moved_written c);
    from = inode_either mixed m.from _ (in_image c).from (from_written c);
    into = inode_either mixed m.into _ (in_image c).into (into_written c);
    replaced = λ n. inode_either mixed m.replaced _ ((in_image c).replaced n) (replaced_written c n);
    kind = λ i l. ⊎_elim (λ z. inl (ap inode_kind z)) (λ z. ⊎_elim (λ k. inl (ap inode_kind z ∙ k)) inr ((finished_agrees c).kind i l)) (inode_mixed mixed i l);
  }

  -- The results are the rename's own, byte for byte.
  pub mixed_results : results h x m ≡ results h s m
  mixed_results = results_same h s x m c.read.laid (in_image c) mixed_way

  -- a parent keeps its type
  pub parent_typed : (i : ℕ) → i < h.inodes → inode_at h (finished h s m called) i ≡ holder_after h s m i → (view_of h x).kind i ≡ (view_of h s).kind i
  unfolding view_of
  parent_typed i l e = ⊎_elim (λ z. ap inode_kind z) (λ z. ap inode_kind z ∙ holder_kind _ m.now (inode_at h s i)) (inode_either mixed i _ l e)
