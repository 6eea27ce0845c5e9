-- A record of the results keeps its length and its type, and made once more, over itself as before or as after, it is as after. Assumes nothing.
use Rattle.std.specs.Prelude.{◌≡◌, refl, ◌≢◌, ◌⊎◌, List, ◌++◌, ℕ, ◌+◌, ◌≤◌, length}
use Rattle.std.proofs.Common.{sym, ap, ◌∙◌, inl, inr, arith, length-append}
use Rattle.std.proofs.Math.Decide.{ℕ_discrete}
use Rattle.seq.specs.Bytes.{put}
use Rattle.seq.specs.Number.{bytes_of}
use Rattle.seq.proofs.BytesLaws.{put_length, put_join, put_before}
use Rattle.seq.proofs.NumberLaws.{bytes_of_length}
use Rattle.layout.specs.declared.Shape.{Shape}
use Rattle.layout.proofs.Commute.{put_swap, put_again, put_both_again}
use Rattle.layout.specs.Fields.{inode_kind}
use Rattle.encode.specs.Inode.{with_links, with_field, with_changed}
use Rattle.results.specs.Results.{moved_bytes, holder_bytes, replaced_bytes}
use Rattle.results.proofs.RecordLaws.{moved_directory, moved_other, replaced_freed, replaced_kept}

-- a number that is put has as many bytes
ends : (k v at n : ℕ) → at + k ≤ n → at + length (bytes_of k v) ≤ n
ends k v at n l = rw (bytes_of_length k v) l

-- ---- the moved inode

module _ (into time : ℕ) (r : List ℕ) where
  moved_cases : (P : List ℕ → Type 0) → (inode_kind r ≡ 2 → P (with_field into (with_changed time r))) → (inode_kind r ≢ 2 → P (with_changed time r)) → P (moved_bytes into time r)
  moved_cases P directory other = go (ℕ_discrete (inode_kind r) 2)
    where
      go : Dec (inode_kind r ≡ 2) → P (moved_bytes into time r)
      go (yes e) = rw (moved_directory into time r e) (directory e)
      go (no n) = rw (moved_other into time r n) (other n)

  pub moved_length : length (moved_bytes into time r) ≡ length r
  moved_length = moved_cases (λ x. length x ≡ length r) (λ _. put_length _ 14 _ ∙ put_length r 24 _) (λ _. put_length r 24 _)

  pub moved_kind : inode_kind (moved_bytes into time r) ≡ inode_kind r
  moved_kind =
      moved_cases (λ x. inode_kind x ≡ inode_kind r) (λ _. put_before _ _ 14 0 (omega arith) ∙ put_before _ r 24 0 (omega arith))
      (λ _. put_before _ r 24 0 (omega arith))

-- ---- a parent

-- its two times, one behind the other
times : ℕ → List ℕ
times time = bytes_of 8 time ++ bytes_of 8 time

times_length : (time : ℕ) → length (times time) ≡ 16
unfolding times
times_length time = length-append (bytes_of 8 time) (bytes_of 8 time) ∙ rw (bytes_of_length 8 time)

module _ (links time : ℕ) (r : List ℕ) where
  holder_times : holder_bytes links time r ≡ put (with_links links r) 16 (times time)
  unfolding holder_bytes times bytes_of
  holder_times = put_join (bytes_of 8 time) (with_links links r) 16 (bytes_of 8 time)

  pub holder_length : length (holder_bytes links time r) ≡ length r
  unfolding holder_bytes
  holder_length = put_length _ 24 _ ∙ put_length _ 16 _ ∙ put_length r 12 _

  pub holder_kind : inode_kind (holder_bytes links time r) ≡ inode_kind r
  unfolding holder_bytes
  holder_kind = put_before _ _ 24 0 (omega arith) ∙ put_before _ _ 16 0 (omega arith) ∙ put_before _ r 12 0 (omega arith)

-- ---- the replaced inode

pub replaced_length : (h : Shape) (left links time : ℕ) (r : List ℕ) → length r ≡ 32 → length (replaced_bytes h left links time r) ≡ 32
replaced_length h left links time r long = go (ℕ_discrete left 0)
  where
    go : Dec (left ≡ 0) → length (replaced_bytes h left links time r) ≡ 32
    go (yes e) = rw (replaced_freed h left links time r e)
    go (no n) = rw (replaced_kept h left links time r n) (put_length _ 24 _ ∙ put_length r 12 _ ∙ long)

pub replaced_kind : (h : Shape) (left links time : ℕ) (r : List ℕ) → left ≢ 0 → inode_kind (replaced_bytes h left links time r) ≡ inode_kind r
replaced_kind h left links time r n =
    rw (replaced_kept h left links time r n) (put_before _ _ 24 0 (omega arith) ∙ put_before _ r 12 0 (omega arith))

-- ---- made twice

module _ (r : List ℕ) (long : length r ≡ 32) where
  pub moved_again : (into time : ℕ) → moved_bytes into time (moved_bytes into time r) ≡ moved_bytes into time r
  moved_again into time = go (ℕ_discrete (inode_kind r) 2)
    where
      -- the two fields, in either order
      swap : (x : List ℕ) → length x ≡ 32 → with_field into (with_changed time x) ≡ with_changed time (with_field into x)
      swap x l =
          put_swap x 24 (bytes_of 8 time) 14 (bytes_of 2 into) (ends 8 time 24 _ (omega arith)) (ends 2 into 14 _ (omega arith)) (inr (ends 2 into 14 24 (omega arith)))

      go : Dec (inode_kind r ≡ 2) → moved_bytes into time (moved_bytes into time r) ≡ moved_bytes into time r
      go (yes e) =
          let once : moved_bytes into time r ≡ with_changed time (with_field into r) = moved_directory into time r e ∙ swap r long in
          moved_directory into time _ (moved_kind into time r ∙ e) ∙ swap _ (moved_length into time r ∙ long)
          ∙ ap (λ (x : List ℕ). with_changed time (with_field into x)) once
          ∙ put_both_again r 14 (bytes_of 2 into) 24 (bytes_of 8 time) (ends 2 into 14 24 (omega arith)) (ends 8 time 24 _ (omega arith))
          ∙ sym once
      go (no n) =
          let once : moved_bytes into time r ≡ with_changed time r = moved_other into time r n in
          moved_other into time _ (λ e. n (sym (moved_kind into time r) ∙ e)) ∙ ap (λ (x : List ℕ). with_changed time x) once
          ∙ put_again r 24 (bytes_of 8 time) (bytes_of 8 time) (ends 8 time 24 _ (omega arith)) refl ∙ sym once

  pub holder_again : (links time : ℕ) → holder_bytes links time (holder_bytes links time r) ≡ holder_bytes links time r
  holder_again links time =
      holder_times links time _ ∙ ap (λ (x : List ℕ). put (with_links links x) 16 (times time)) (holder_times links time r)
      ∙ put_both_again r 12 (bytes_of 2 links) 16 (times time) (ends 2 links 12 16 (omega arith)) (omega (arith, times_length time))
      ∙ sym (holder_times links time r)

  pub replaced_again : (h : Shape) (left links time : ℕ) → replaced_bytes h left links time (replaced_bytes h left links time r) ≡ replaced_bytes h left links time r
  replaced_again h left links time = go (ℕ_discrete left 0)
    where
      go : Dec (left ≡ 0) → replaced_bytes h left links time (replaced_bytes h left links time r) ≡ replaced_bytes h left links time r
      go (yes e) = replaced_freed h left links time _ e ∙ sym (replaced_freed h left links time r e)
      go (no n) =
          let once : replaced_bytes h left links time r ≡ with_changed time (with_links links r) = replaced_kept h left links time r n in
          replaced_kept h left links time _ n ∙ ap (λ (x : List ℕ). with_changed time (with_links links x)) once
          ∙ put_both_again r 12 (bytes_of 2 links) 24 (bytes_of 8 time) (ends 2 links 12 24 (omega arith)) (ends 8 time 24 _ (omega arith))
          ∙ sym once

-- what is as before or as after is as after, made once more
pub afresh : (F : List ℕ → List ℕ) (b r : List ℕ) → F (F b) ≡ F b → (r ≡ b) ⊎ (r ≡ F b) → F r ≡ F b
afresh F b r again (inl e) = ap F e
afresh F b r again (inr e) = ap F e ∙ again
