-- Laws of rows applied one after another: what is read back, and which records they cover. Assumes nothing.
use Rattle.std.specs.Prelude.{◌≡◌, refl, ◌⊎◌, ◌≢◌, [], ◌∷◌}
use Rattle.std.proofs.Common.{sym, ◌∙◌, subst, inl, inr}
use Rattle.crash_theorem.specs.Pick.{All, Has}
use Rattle.crash_theorem.specs.Store.{Covers, Distinct, Rows, Spares, Store, put_all}

module _ (𝓢 : Store) where
  -- a property of every record after a row is applied: of the one written, and of the others as they were
  pub after_put : {X : 𝓢.Img} {r : 𝓢.Row} → 𝓢.Ok X → 𝓢.Fits r → (P : 𝓢.Key → 𝓢.Body → Type 0) → P (𝓢.key r) (𝓢.body r)
      → ((j : 𝓢.Key) → j ≢ 𝓢.key r → P j (𝓢.get X j)) → (j : 𝓢.Key) → P j (𝓢.get (𝓢.put X r) j)
  after_put {X} {r} o f P p q j = go (𝓢.same j (𝓢.key r))
    where
      go : Dec (j ≡ 𝓢.key r) → P j (𝓢.get (𝓢.put X r) j)
      go (yes e) = rw (e, 𝓢.get_same o f) p
      go (no n) = rw (𝓢.get_other o f j n) (q j n)

  pub all_ok : (rs : Rows 𝓢) {X : 𝓢.Img} → 𝓢.Ok X → All 𝓢.Fits rs → 𝓢.Ok (put_all 𝓢 X rs)
  all_ok [] o f = o
  all_ok (r ∷ rs) o f = all_ok rs (𝓢.put_ok o f.0) f.1

  pub all_other : (rs : Rows 𝓢) {X : 𝓢.Img} → 𝓢.Ok X → All 𝓢.Fits rs → (k : 𝓢.Key) → Spares 𝓢 rs k → 𝓢.get (put_all 𝓢 X rs) k ≡ 𝓢.get X k
  all_other [] o f k n = refl
  all_other (r ∷ rs) o f k n = all_other rs (𝓢.put_ok o f.0) f.1 k n.1 ∙ 𝓢.get_other o f.0 k (λ e. n.0 (sym e))

  pub rows_same : (rs : Rows 𝓢) {X : 𝓢.Img} → 𝓢.Ok X → All 𝓢.Fits rs → Distinct 𝓢 rs → (r : 𝓢.Row) → Has rs r
      → 𝓢.get (put_all 𝓢 X rs) (𝓢.key r) ≡ 𝓢.body r
  rows_same [] o f d r a = absurd a
  rows_same (q ∷ rs) {X} o f d r (inl e) =
      subst (λ (x : 𝓢.Row). 𝓢.get (put_all 𝓢 X (q ∷ rs)) (𝓢.key x) ≡ 𝓢.body x) e
      (all_other rs (𝓢.put_ok o f.0) f.1 (𝓢.key q) d.0 ∙ 𝓢.get_same o f.0)
  rows_same (q ∷ rs) o f d r (inr a) = rows_same rs (𝓢.put_ok o f.0) f.1 d.1 r a

  pub covers? : (rs : Rows 𝓢) (k : 𝓢.Key) → Covers 𝓢 rs k ⊎ Spares 𝓢 rs k
  covers? [] k = inr tt
  covers? (r ∷ rs) k = go (𝓢.same (𝓢.key r) k) (covers? rs k)
    where
      go : Dec (𝓢.key r ≡ k) → Covers 𝓢 rs k ⊎ Spares 𝓢 rs k → Covers 𝓢 (r ∷ rs) k ⊎ Spares 𝓢 (r ∷ rs) k
      go (yes e) q = inl (inl e)
      go (no n) (inl a) = inl (inr a)
      go (no n) (inr h) = inr (n, h)

  pub spares_not : (rs : Rows 𝓢) (k : 𝓢.Key) → Spares 𝓢 rs k → Covers 𝓢 rs k → ⊥
  spares_not [] k s c = c
  spares_not (r ∷ rs) k s (inl e) = s.0 e
  spares_not (r ∷ rs) k s (inr c) = spares_not rs k s.1 c
