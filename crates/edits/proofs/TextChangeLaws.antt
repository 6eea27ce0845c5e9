-- Such a change keeps the rules on symlinks and their texts. Assumes nothing.
use Rattle.std.specs.Prelude.{◌≡◌, ◌≢◌, ◌⊎◌, List, ℕ, ◌<◌}
use Rattle.std.proofs.Common.{sym, ap, ◌∙◌, inl, inr, ⊎_elim, arith}
use Rattle.std.proofs.Math.Decide.{ℕ_discrete}
use Rattle.layout.specs.View.{View}
use Rattle.edits.specs.Kinds.{IsSymlink, TextUsed}
use Rattle.edits.proofs.KindsLaws.{symlink_used, kind?}
use Rattle.edits.specs.ConsistentView.{Texts, ConsistentView}
use Rattle.edits.specs.Edit.{SameSize}
use Rattle.edits.proofs.EditLaws.{kept, was}
use Rattle.edits.specs.TextChange.{TextChange}
use Rattle.edits.specs.InodeChange.{InodeChange}
use Rattle.edits.proofs.InodeChangeLaws.{not_gone, same_was, same_is}

-- where one inode may be freed and none is made, its text is freed with it if it is a symlink
module _ {v w : View} (Gone : ℕ → Type 0) (replaced : ℕ) (single : (i : ℕ) → Gone i → i ≡ replaced) (gone? : Dec (Gone replaced)) (size : SameSize v w)
    (stays : (t : ℕ) → t < v.texts → ((i : ℕ) → Gone i → IsSymlink v i → v.field i ≢ t) → w.text_length t ≡ v.text_length t)
    (freed : (i : ℕ) → Gone i → IsSymlink v i → w.text_length (v.field i) ≡ 0)
    (fields : (i : ℕ) → IsSymlink v i → IsSymlink w i → w.field i ≡ v.field i) where
  abbrev TextFreed : ℕ → Type 0
  TextFreed t = (i : ℕ) × Gone i × IsSymlink v i × (v.field i ≡ t)

  text_freed? : (t : ℕ) → Dec (TextFreed t)
  text_freed? t = go gone? (kind? v replaced 3) (ℕ_discrete (v.field replaced) t)
    where
      go : Dec (Gone replaced) → Dec (IsSymlink v replaced) → Dec (v.field replaced ≡ t) → Dec (TextFreed t)
      go (yes g) (yes l) (yes e) = yes (replaced, g, l, e)
      go (yes g) (yes l) (no e) = no (λ f. e (ap v.field (sym (single _ f.1)) ∙ f.3))
      go (yes g) (no l) e = no (λ f. l (rw (single _ f.1) at f.2))
      go (no g) l e = no (λ f. g (rw (single _ f.1) at f.1))

  same_length : (t : ℕ) → t < v.texts → (TextFreed t → ⊥) → w.text_length t ≡ v.text_length t
  same_length t l n = stays t l (λ i g s e. n (i, g, s, e))

  pub texts_freed : TextChange v w Gone (λ _. ⊥)
  texts_freed = record {
    before = λ t u. before t u (text_freed? t);
    after = λ t u. inl (after t u (text_freed? t));
    freed = λ i g l u. u.1 (freed i g l);
    fresh = λ _ z. absurd z;
    single = λ _ _ z. absurd z;
    same = fields;
  }
    where
      before : (t : ℕ) → TextUsed v t → Dec (TextFreed t) → TextUsed w t ⊎ TextFreed t
      before t u (yes f) = inr f
      before t u (no n) = inl (omega (arith, size, u.0), λ z. u.1 (sym (same_length t u.0 n) ∙ z))

      after : (t : ℕ) → TextUsed w t → Dec (TextFreed t) → TextUsed v t
      after t u (yes f) = absurd (u.1 (ap w.text_length (sym f.3) ∙ freed f.0 f.1 f.2))
      after t u (no n) = let l : t < v.texts = omega (arith, size, u.0) in (l, λ z. u.1 (same_length t l n ∙ z))

-- Rules 36, 37 and 39 after a change.
module _ {v w : View} {slots : List ℕ} {Gone Made Reparented : ℕ → Type 0} (c : InodeChange v w slots Gone Made Reparented) (good : ConsistentView v)
    (texts : TextChange v w Gone Made) where
  symlink_was : (i : ℕ) → IsSymlink w i → (Made i → ⊥) → IsSymlink v i
  symlink_was i s m = was c.edit i 3 (same_was c i (symlink_used w i s) m).kind s

  symlink_is : (i : ℕ) → IsSymlink v i → (Gone i → ⊥) → IsSymlink w i
  symlink_is i s g = kept c.edit i 3 (same_is c i (symlink_used v i s) g).kind s

  -- a text of which the symlink is still there was not freed
  still_used : (i : ℕ) → IsSymlink v i → IsSymlink w i → TextUsed w (v.field i)
  still_used i b s =
      ⊎_elim (λ u. u)
      (λ (k, g, l, e). absurd (not_gone c i (symlink_used w i s) (rw (good.texts.own k i l b e) at g)))
      (texts.before (v.field i) (good.texts.used i b))

  used : (i : ℕ) → IsSymlink w i → TextUsed w (w.field i)
  used i s = go (c.made? i)
    where
      go : Dec (Made i) → TextUsed w (w.field i)
      go (yes m) = (texts.fresh i m s).0
      go (no m) = let b = symlink_was i s m in rw (texts.same i b s) (still_used i b s)

  -- a symlink that was made has another text than one that was there
  apart : (i k : ℕ) → Made i → (Made k → ⊥) → IsSymlink w i → IsSymlink w k → w.field i ≢ w.field k
  apart i k m n si sk e =
      let b = symlink_was k sk n in
      (texts.fresh i m si).1 (rw (e ∙ texts.same k b sk) (good.texts.used k b))

  own : (i k : ℕ) → IsSymlink w i → IsSymlink w k → w.field i ≡ w.field k → i ≡ k
  own i k si sk e = go (c.made? i) (c.made? k)
    where
      go : Dec (Made i) → Dec (Made k) → i ≡ k
      go (yes m) (yes n) = texts.single i k m n e
      go (yes m) (no n) = absurd (apart i k m n si sk e)
      go (no m) (yes n) = absurd (apart k i n m sk si (sym e))
      go (no m) (no n) =
          let a = symlink_was i si m in
          let b = symlink_was k sk n in
          good.texts.own i k a b (sym (texts.same i a si) ∙ e ∙ texts.same k b sk)

  owned : (t : ℕ) → TextUsed w t → (i : ℕ) × IsSymlink w i × (w.field i ≡ t)
  owned t u = ⊎_elim old (λ (i, _, s, e). (i, s, e)) (texts.after t u)
    where
      old : TextUsed v t → (i : ℕ) × IsSymlink w i × (w.field i ≡ t)
      old b =
          let (i, s, e) = good.texts.owned t b in
          let n = symlink_is i s (λ g. texts.freed i g s (rw e u)) in
          (i, n, texts.same i s n ∙ e)

  pub texts_changed : Texts w
  texts_changed = record { used = used; own = own; owned = owned }
