-- An image whose journal record is clear: that record's bytes, and that the image is consistent by its parts. Assumes nothing.
use Rattle.std.specs.Prelude.{◌≡◌, refl, true, List, ℕ}
use Rattle.std.proofs.Math.Path.{sym}
use Rattle.std.proofs.Common.{◌∙◌, subst, arith}
use Rattle.std.proofs.Math.Nat.{zero-add}
use Rattle.std.proofs.Math.Dec.{lit<}
use Rattle.std.proofs.Math.ListN.{length}
use Rattle.std.proofs.lemmas.List.{get_or-replicate}
use Rattle.std.proofs.Math.Seq.{ext_get_or}
use borrow.Author.Tests.{eqb-true}
use Rattle.seq.specs.Bytes.{zeros}
use Rattle.seq.proofs.SearchLaws.{all_at}
use Rattle.layout.specs.declared.Shape.{Shape}
use Rattle.layout.specs.Facts.{Read}
use Rattle.layout.proofs.RecordLaws.{record_length}
use Rattle.layout.specs.View.{journal_at}
use Rattle.consistency.specs.Sound.{journal_clear}
use Rattle.consistency.specs.Consistent.{consistent}
use Rattle.consistency.specs.RecordFacts.{Bodies}
use Rattle.consistency.proofs.FactLaws.{is_consistent}
use Rattle.plan.specs.Write.{journal_key}
use Rattle.results.specs.Results.{free_record}
use Rattle.image_store.specs.Image.{record_of}
use Rattle.image_store.proofs.ImageLaws.{record_is}

module _ {h : Shape} {x : List ℕ} (read : Read x h) (clear : journal_clear h x ≡ true) where
  pub clear_zeros : record_of h x journal_key ≡ free_record h 4
  unfolding journal_clear zeros
  clear_zeros =
      let long : length (journal_at h x) ≡ 32 = record_length h x 4 0 read.laid.long (omega arith) (omega arith) in
      record_is h x journal_key (record { in_image = lit< tt; in_section = lit< tt })
      ∙ ext_get_or 0 (journal_at h x) (free_record h 4) (long ∙ refl)
      (λ k b. eqb-true _ _ (rw zero-add at (all_at _ 32 clear k (omega arith))) ∙ sym (get_or-replicate {A = ℕ} 32 k 0 0 (omega arith)))

  pub consistent_of : Bodies h x → consistent x ≡ true
  consistent_of bodies = is_consistent x (record {
    layout = read.good;
    journal = subst (λ (k : Shape). journal_clear k x ≡ true) read.shape clear;
    bodies = subst (λ (k : Shape). Bodies k x) read.shape bodies;
  })
