-- Laws of buckets: entries that clash are in one, and it can be read from a record's bytes. Assumes nothing.
use Rattle.std.specs.Prelude.{◌≡◌, refl, Bool, true, false, List, ◌≢◌, ℕ, ◌+◌, ◌≤◌, ◌<◌}
use Rattle.std.proofs.Common.{ap₂, arith, eq-eqb, ne_eqb}
use Rattle.std.proofs.Math.Bool.{and-false}
use Rattle.seq.specs.Number.{number_at}
use Rattle.layout.specs.declared.Shape.{Shape}
use Rattle.layout.specs.Facts.{Laid}
use Rattle.layout.specs.View.{View, view_of, entry_at, entry_used}
use Rattle.names.specs.Name.{clash}
use Rattle.names.specs.NameTests.{Named}
use Rattle.duplicates.specs.Bucket.{buckets, mix, mixed_of, bucket_of, bucket_at}
use Rattle.names.specs.ClashLaws.{clash_first, clash_second, clash_parent, clash_name}
use Rattle.names.specs.PieceLaws.{name_piece}

pub bucket_free : (v : View) (j : ℕ) → v.name_length j ≡ 0 → bucket_at v j ≡ buckets
unfolding bucket_at
bucket_free v j e = rw (eq-eqb _ _ e)

mix_below : (p a b c d f g : ℕ) → mix p a b c d f g < buckets
unfolding mix
mix_below p a b c d f g = omega arith

used_below : (v : View) (j : ℕ) → entry_used v j ≡ true → bucket_at v j < buckets
unfolding bucket_at bucket_of
used_below v j u = rw u (mix_below _ _ _ _ _ _ _)

-- an entry in no bucket clashes with no other
pub free_clash : (v : View) (j : ℕ) → bucket_at v j ≡ buckets → (i : ℕ) → clash v i j ≡ false
unfolding clash
free_clash v j e i = go (entry_used v j) refl
  where
    go : (b : Bool) → entry_used v j ≡ b → clash v i j ≡ false
    go true u = absurd (let l = used_below v j u in omega arith)
    go false u = rw (u, and-false (entry_used v i))

-- entries that clash are in one bucket
pub clash_bucket : (v : View) (i j : ℕ) → clash v i j ≡ true → bucket_at v i ≡ bucket_at v j
unfolding bucket_at
clash_bucket v i j e =
    rw (clash_first v i j e, clash_second v i j e) (ap₂ (λ (x : ℕ) (y : List ℕ). bucket_of x y) (clash_parent v i j e) (clash_name v i j e))

-- the bucket that is read from the bytes of an entry in use
pub bucket_mixed : (h : Shape) (s : List ℕ) (j : ℕ) → Laid h s → Named h s → j < h.entries → (view_of h s).name_length j ≢ 0
    → mixed_of (entry_at h s j) ≡ bucket_at (view_of h s) j
unfolding mixed_of bucket_at bucket_of view_of
bucket_mixed h s j laid named below used =
    let u : entry_used (view_of h s) j ≡ true = rw (ne_eqb _ _ used) in
    let piece : (k : ℕ) → 8 + k + 4 ≤ 32 → number_at 4 (entry_at h s j) (8 + k) ≡ number_at 4 ((view_of h s).name j) k =
    λ k l. name_piece h s j 4 k laid named below u l in
    rw (u, piece 0 (omega arith), piece 4 (omega arith), piece 8 (omega arith), piece 12 (omega arith), piece 16 (omega arith), piece 20 (omega arith))
