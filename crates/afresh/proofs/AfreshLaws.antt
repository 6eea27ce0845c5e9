-- On an image on the way of a rename the results are those on the image before. Assumes nothing.
use Rattle.std.specs.Prelude.{◌≡◌, ◌≢◌, ◌⊎◌, not, ℕ, ◌<◌, eqb}
use Rattle.std.proofs.Math.Path.{refl, sym, ap, ap₂}
use Rattle.std.proofs.Common.{◌∙◌}
use Rattle.std.proofs.Math.Logic.{⊎_elim}
use mathlib.Core.List.{List, [], ◌∷◌, ◌++◌}
use Rattle.std.proofs.Math.Decide.{ℕ_discrete}
use Rattle.std.proofs.lemmas.Bool.{eqb-false, not-true}
use Rattle.layout.specs.declared.Shape.{Shape}
use Rattle.layout.specs.Limits.{absent}
use Rattle.layout.specs.Facts.{Laid}
use Rattle.layout.specs.Fields.{inode_kind}
use Rattle.layout.specs.View.{view_of, inode_at}
use Rattle.edits.proofs.WrittenLaws.{same_entry}
use Rattle.plan.specs.Write.{Write}
use Rattle.recounts.specs.declared.Move.{Move}
use Rattle.recounts.specs.Recount.{entries_after, links_after}
use Rattle.results.specs.Results.{present, holder_bytes, replaced_bytes, holder_after, replaced_after, old_row, results}
use Rattle.results.specs.InImage.{InImage}
use Rattle.results.proofs.RecordLaws.{replaced_freed}
use Rattle.results.proofs.Again.{holder_kind, replaced_kind, replaced_again, afresh}
use Rattle.afresh.specs.Recount.{Agrees}
use Rattle.afresh.proofs.RecountLaws.{entries_agree, links_agree}
use Rattle.afresh.proofs.Inodes.{inode_long, moved_afresh, holder_afresh, inode_row, when_same}
use Rattle.afresh.specs.Afresh.{PartWay}

module _ (h : Shape) (s x : List ℕ) (m : Move) (laid : Laid h s) (range : InImage h m) (way : PartWay h s x m) where
  pub agrees : Agrees (view_of h s) (view_of h x) m
  unfolding view_of
  agrees = record {
    size = record { inodes = refl; entries = refl; texts = refl; handles = refl };
    entry = λ j l a b. same_entry h s x j (way.entry j l a b);
    kind = way.kind;
  }

  holder_same : (i : ℕ) → i < h.inodes → (inode_at h x i ≡ inode_at h s i) ⊎ (inode_at h x i ≡ holder_after h s m i) → holder_after h x m i ≡ holder_after h s m i
  unfolding view_of
  holder_same i l e =
      let n = links_after (view_of h s) m i in
      let k : (view_of h x).kind i ≡ (view_of h s).kind i = ⊎_elim (λ z. ap inode_kind z) (λ z. ap inode_kind z ∙ holder_kind n m.now _) e in
      ap (λ (c : ℕ). holder_bytes c m.now (inode_at h x i)) (links_agree agrees i k) ∙ holder_afresh h s x laid i n m.now l e

  -- how many entries the replaced inode has left
  abbrev left : ℕ
  left = entries_after (view_of h s) m m.replaced

  replaced_same : m.replaced ≢ absent → replaced_after h x m ≡ replaced_after h s m
  unfolding view_of
  replaced_same named =
      ap (λ (k : ℕ). replaced_bytes h k (links_after (view_of h x) m m.replaced) m.now (inode_at h x m.replaced)) (entries_agree agrees m.replaced)
      ∙ go (ℕ_discrete left 0)
    where
      go : Dec (left ≡ 0) → replaced_bytes h left (links_after (view_of h x) m m.replaced) m.now (inode_at h x m.replaced) ≡ replaced_after h s m
      go (yes e) = replaced_freed h _ _ m.now _ e ∙ sym (replaced_freed h _ _ m.now _ e)
      go (no n) =
          let links = links_after (view_of h s) m m.replaced in
          let k : (view_of h x).kind m.replaced ≡ (view_of h s).kind m.replaced =
          ⊎_elim (λ z. ap inode_kind z) (λ z. ap inode_kind z ∙ replaced_kind h left links m.now _ n) (way.replaced named) in
          ap (λ (c : ℕ). replaced_bytes h left c m.now (inode_at h x m.replaced)) (links_agree agrees m.replaced k)
          ∙ afresh (λ r. replaced_bytes h left links m.now r) (inode_at h s m.replaced) _
          (replaced_again _ (inode_long h s laid m.replaced (range.replaced named)) h left links m.now) (way.replaced named)

  -- The results on x are the results on s, row by row and byte by byte.
  pub results_same : results h x m ≡ results h s m
  unfolding results
  results_same =
      ap₂ (λ (a : List Write) (bs : List Write). a ++ bs)
      (ap₂ (λ (a : List Write) (bs : List Write). a ++ bs)
      (ap₂ (λ (a : List Write) (bs : List Write). a ++ bs)
      (ap₂ (λ (a b : Write). old_row h s m ∷ a ∷ b ∷ []) (inode_row m.moved (moved_afresh h s x laid m range.moved way.moved)) (inode_row m.from (holder_same m.from range.from way.from)))
      (when_same (not (eqb m.into m.from)) _ _ (λ _. inode_row m.into (holder_same m.into range.into way.into))))
      (when_same (present m.replaced) _ _ (λ e. inode_row m.replaced (replaced_same (eqb-false _ _ (not-true _ e))))))
      refl
