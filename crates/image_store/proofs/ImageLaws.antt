-- The byte images of one layout are a store of the crash theorem. Assumes nothing.
use Rattle.std.specs.Prelude.{◌≡◌, refl, ◌≢◌, Bool, true, false, not, cond, List, [], ◌∷◌, ℕ, ltb}
use Rattle.std.proofs.Common.{sym, ap, ◌∙◌, subst, lt-ltb, ltb-true}
use Rattle.std.proofs.Math.Decide.{ℕ_discrete}
use Rattle.std.proofs.lemmas.Bool.{not-true}
use Rattle.seq.specs.Truth.{to_t, of_t, and_left, and_right, and_both}
use Rattle.layout.specs.declared.Shape.{Shape}
use Rattle.layout.specs.Place.{Key}
use Rattle.layout.specs.Facts.{Valid, Laid, Read}
use Rattle.layout.specs.Contents.{layout_good, shape_of}
use Rattle.layout.proofs.ContentsLaws.{good_laid}
use Rattle.layout.specs.Record.{record_at, store}
use Rattle.layout.proofs.RecordLaws.{store_same, store_other, store_contents, same_image}
use Rattle.layout.proofs.Commute.{store_shape, store_layout}
use Rattle.plan.proofs.FitLaws.{written_fits}
use Rattle.plan.specs.Write.{Write, store_all}
use Rattle.crash_theorem.specs.Pick.{All}
use Rattle.crash_theorem.specs.Store.{Store, put_all}
use Rattle.image_store.specs.Image.{is_valid, record_of, Ok, Fits, accepted, put_write}

-- ---- keys

pub same_key : (j k : Key) → Dec (j ≡ k)
same_key j k = go (ℕ_discrete j.section k.section) (ℕ_discrete j.index k.index)
  where
    go : Dec (j.section ≡ k.section) → Dec (j.index ≡ k.index) → Dec (j ≡ k)
    go (yes e) (yes f) = yes (λ t. record { section = e t; index = f t })
    go (yes e) (no n) = no (λ h. n (ap (λ (x : Key). x.index) h))
    go (no n) q = no (λ h. n (ap (λ (x : Key). x.section) h))

pub valid_true : (h : Shape) (k : Key) → Valid h k → is_valid h k ≡ true
unfolding is_valid
valid_true h k v = and_both (ltb k.section 5) _ (lt-ltb _ _ v.in_image) (lt-ltb _ _ v.in_section)

pub true_valid : (h : Shape) (k : Key) → is_valid h k ≡ true → Valid h k
unfolding is_valid
true_valid h k e = record {
  in_image = ltb-true _ _ (and_left (ltb k.section 5) _ e);
  in_section = ltb-true _ _ (and_right (ltb k.section 5) _ e);
}

-- ---- records

pub record_is : (h : Shape) (s : List ℕ) (k : Key) → Valid h k → record_of h s k ≡ record_at h s k.section k.index
unfolding record_of
record_is h s k v = rw (valid_true h k v)

-- images that agree on a record where it exists agree on it
pub record_same : (h : Shape) (s t : List ℕ) (k : Key) → (Valid h k → record_at h s k.section k.index ≡ record_at h t k.section k.index)
    → record_of h s k ≡ record_of h t k
unfolding record_of
record_same h s t k f = go (is_valid h k) (λ e. f (true_valid h k e))
  where
    go : (b : Bool) → (b ≡ true → record_at h s k.section k.index ≡ record_at h t k.section k.index)
        → cond b (record_at h s k.section k.index) [] ≡ cond b (record_at h t k.section k.index) []
    go true f = f refl
    go false f = refl

-- ---- images of one layout

pub read_of : (h : Shape) (s : List ℕ) → layout_good s ≡ true → h ≡ shape_of s → Read s h
read_of h s good shape = record { good = good; shape = shape; laid = subst (λ (x : Shape). Laid x s) (sym shape) (good_laid s good) }

-- s₀ itself has it
pub first_ok : (h : Shape) (s₀ : List ℕ) → Read s₀ h → Ok h s₀ s₀
first_ok h s₀ r = record { read = r; contents = refl }

-- ---- rows

pub fits_accepted : (h : Shape) (w : Write) → Fits h w → accepted h w ≡ true
unfolding accepted
fits_accepted h w f = written_fits h w.group w.key w.body f.writes

pub put_refused : (h : Shape) (s : List ℕ) (w : Write) → accepted h w ≡ false → put_write h s w ≡ s
unfolding put_write
put_refused h s w e = rw e

pub put_is : (h : Shape) (s : List ℕ) (w : Write) → Fits h w → put_write h s w ≡ store h s w.key w.body
unfolding put_write
put_is h s w f = rw (fits_accepted h w f)

-- ---- the laws

module _ (h : Shape) (s₀ s : List ℕ) (w : Write) (o : Ok h s₀ s) (f : Fits h w) where
  pub put_ok : Ok h s₀ (put_write h s w)
  put_ok =
      subst (λ (x : List ℕ). Ok h s₀ x) (sym (put_is h s w f)) (record {
        read = read_of h _ (store_layout h s w.key w.body ∙ o.read.good) (o.read.shape ∙ sym (store_shape h s w.key w.body));
        contents = store_contents h s w.body w.key o.read.laid.long f.writes.valid f.writes.whole ∙ o.contents;
      })

  pub get_same : record_of h (put_write h s w) w.key ≡ w.body
  get_same =
      record_is h (put_write h s w) w.key f.writes.valid
      ∙ ap (λ (x : List ℕ). record_at h x w.key.section w.key.index) (put_is h s w f)
      ∙ store_same h s w.body w.key o.read.laid.long f.writes.valid f.writes.whole

  pub get_other : (j : Key) → j ≢ w.key → record_of h (put_write h s w) j ≡ record_of h s j
  get_other j n =
      record_same h (put_write h s w) s j (λ v.
      ap (λ (x : List ℕ). record_at h x j.section j.index) (put_is h s w f)
      ∙ store_other h s w.body w.key o.read.laid.long f.writes.valid f.writes.whole j v n)

pub image_ext : (h : Shape) (s₀ s t : List ℕ) → Ok h s₀ s → Ok h s₀ t → ((k : Key) → record_of h s k ≡ record_of h t k) → s ≡ t
image_ext h s₀ s t o p e =
    same_image h s t o.read.laid.long p.read.laid.long (o.contents ∙ sym p.contents) (λ k i l b.
    let key : Key = record { section = k; index = i } in
    let v : Valid h key = record { in_image = l; in_section = b } in
    sym (record_is h s key v) ∙ e key ∙ record_is h t key v)

-- The images with the layout of s₀, as a store. Rows by record need no buffers.
abbrev pub images : Shape → List ℕ → Store
images h s₀ = record {
  Img = List ℕ;
  Key = Key;
  Body = List ℕ;
  Row = Write;
  Lent = Unit {0};
  enough = λ b s. true;
  group = λ w. w.group;
  key = λ w. w.key;
  body = λ w. w.body;
  get = λ s k. record_of h s k;
  put = λ s w. put_write h s w;
  accepts = λ s w. accepted h w;
  Ok = Ok h s₀;
  Fits = Fits h;
  same = same_key;
  takes = λ {X} {r} o f. to_t (accepted h r) (fits_accepted h r f);
  refuses = λ X r t. put_refused h X r (not-true (accepted h r) (of_t (not (accepted h r)) t));
  put_ok = λ {X} {r} o f. put_ok h s₀ X r o f;
  get_same = λ {X} {r} o f. get_same h s₀ X r o f;
  get_other = λ {X} {r} o f j n. get_other h s₀ X r o f j n;
  ext = λ {X} {Y} o p e. image_ext h s₀ X Y o p e;
}

-- rows that fit, applied one after another, are so many stores of records
pub puts_store : (h : Shape) (s₀ s : List ℕ) (ws : List Write) → All (Fits h) ws → put_all (images h s₀) s ws ≡ store_all h s ws
puts_store h s₀ s [] f = refl
puts_store h s₀ s (w ∷ ws) f =
    ap (λ (x : List ℕ). put_all (images h s₀) x ws) (put_is h s w f.0) ∙ puts_store h s₀ (store h s w.key w.body) ws f.1
