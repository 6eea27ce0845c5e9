-- Images on the way of an exchange: each record but the journal's is as before or as finished, and the results are the exchange's own. Assumes nothing.
use Rattle.std.specs.Prelude.{◌≡◌, List, ℕ, ◌<◌}
use Rattle.std.proofs.Math.Path.{ap}
use Rattle.std.proofs.Common.{◌∙◌}
use Rattle.std.proofs.Math.Logic.{⊎_elim}
use Rattle.layout.specs.declared.Shape.{Shape}
use Rattle.layout.specs.Fields.{inode_kind}
use Rattle.layout.specs.View.{view_of}
use Rattle.recounts.specs.declared.Move.{Move}
use Rattle.exchanges.specs.Exchange.{exchange_results}
use Rattle.afresh.specs.ExchangeAfresh.{ExchangePartWay}
use Rattle.afresh.proofs.ExchangeAfreshLaws.{exchange_same}
use Rattle.image_store.specs.Mixed.{Mixed}
use Rattle.image_store.proofs.MixedLaws.{inode_mixed, inode_either, entry_either, entry_stays}
use Rattle.exchange_outcome.specs.Outcome.{exchanged}
use Rattle.exchange_outcome.specs.Paired.{Paired}
use Rattle.exchange_outcome.proofs.PairedLaws.{in_image}
use Rattle.exchange_outcome.proofs.Finished.{old_written, new_written, moved_written, replaced_written, from_written, into_written, entry_kept}
use Rattle.exchange_outcome.proofs.Consistent.{kind_kept}

module _ {h : Shape} {s : List ℕ} {m : Move} (c : Paired h s m) {x : List ℕ} (mixed : Mixed h s (exchanged h s m) x) where
  -- no inode changes its type
  pub kind_mixed : (i : ℕ) → i < h.inodes → (view_of h x).kind i ≡ (view_of h s).kind i
  unfolding view_of
  kind_mixed i l = ⊎_elim (λ z. ap inode_kind z) (λ z. ap inode_kind z ∙ kind_kept c i l) (inode_mixed mixed i l)

  pub mixed_way : ExchangePartWay h s x m
  mixed_way = record {
    entry = λ j l a b. entry_stays mixed j l (entry_kept c j l a b);
    first = record {
      slot = entry_either mixed m.new _ (in_image c).slots.new (new_written c);
      moved = inode_either mixed m.moved _ (in_image c).moved (moved_written c);
    };
    second = record {
      slot = entry_either mixed m.old _ (in_image c).slots.old (old_written c);
      moved = inode_either mixed m.replaced _ (in_image c).replaced (replaced_written c);
    };
    from = inode_either mixed m.from _ (in_image c).from (from_written c);
    into = inode_either mixed m.into _ (in_image c).into (into_written c);
    kind = kind_mixed;
  }

  -- The results are the exchange's own, byte for byte.
  pub mixed_results : exchange_results h x m ≡ exchange_results h s m
  mixed_results = exchange_same h s x c.read.laid m (in_image c) mixed_way
