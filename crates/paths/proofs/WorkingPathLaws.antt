-- A working path keeps its length and its bytes. Assumes nothing.
use Rattle.std.specs.Prelude.{◌≡◌, List, ◌++◌, ℕ, ◌+◌, ◌-◌, ◌≤◌, length, replicate}
use Rattle.std.proofs.Common.{sym, ap, ◌∙◌, zero-add, arith, length-append}
use Rattle.std.proofs.Math.Nat.{sub-zero}
use Rattle.std.proofs.lemmas.List.{length-replicate}
use Rattle.std.proofs.Math.Seq.{take-append_seam}
use Rattle.seq.specs.Bytes.{part, put}
use Rattle.seq.proofs.BytesLaws.{put_join, put_zeros}
use Rattle.layout.specs.Limits.{path_bytes}
use Rattle.paths.specs.WorkingPath.{working_path}

-- a working path has 256 bytes
pub filled_length : (p : List ℕ) → length p ≤ path_bytes → length (working_path p) ≡ path_bytes
unfolding working_path
filled_length p l = length-append p (replicate (path_bytes - length p) 0) ∙ ap (λ n. length p + n) (length-replicate (path_bytes - length p) 0) ∙ (let e : length p + (path_bytes - length p) ≡ path_bytes = omega arith in e)

-- the working path holds what was put into it
pub filled_part : (p : List ℕ) (n : ℕ) → n ≡ length p → part (working_path p) 0 (n - 0) ≡ p
unfolding working_path part
filled_part p n e = rw (sub-zero, e) (take-append_seam p (replicate (path_bytes - length p) 0))

-- two runs of bytes copied over zeros, one behind the other
pub twice : (text rest : List ℕ) (n : ℕ) → length text + length rest ≤ n → put (put (replicate n 0) 0 text) (length text) rest ≡ (text ++ rest) ++ replicate (n - length (text ++ rest)) 0
twice text rest n l =
    let e : put (put (replicate n 0) 0 text) (length text) rest ≡ put (replicate n 0) 0 (text ++ rest) =
    ap (λ m. put (put (replicate n 0) 0 text) m rest) (sym (zero-add (length text))) ∙ put_join text (replicate n 0) 0 rest in
    e ∙ put_zeros n (text ++ rest) (rw length-append l)
