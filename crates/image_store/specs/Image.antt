-- The byte images of one layout: their records, and rows that replace one of them. Assumes nothing.
use Rattle.std.specs.Prelude.{◌≡◌, Bool, cond, ◌&&◌, List, [], ℕ, ltb}
use Rattle.seq.specs.Bytes.{part}
use Rattle.layout.specs.declared.Shape.{Shape}
use Rattle.layout.specs.Limits.{contents_bytes}
use Rattle.layout.specs.Place.{Key, records}
use Rattle.layout.specs.Facts.{Read}
use Rattle.layout.specs.Record.{record_at, store}
use Rattle.plan.specs.Fit.{is_fitting_row}
use Rattle.plan.specs.FitFacts.{Writes}
use Rattle.plan.specs.Write.{Write, row_from}

-- the record exists
unfoldable pub is_valid : Shape → Key → Bool
is_valid h k = ltb k.section 5 && ltb k.index (records h k.section)

-- The bytes of a record. A key of no record reads empty, so that no law below asks for a key that exists.
unfoldable pub record_of : Shape → List ℕ → Key → List ℕ
record_of h s k = cond (is_valid h k) (record_at h s k.section k.index) []

-- The image s has the layout of s₀, which is good and has shape h.
pub record Ok (h : Shape) (s₀ s : List ℕ) : Type 0 where
  -- its layout is good, and its shape and length are those of h
  pub read : Read s h
  -- its table of contents is that of s₀
  pub contents : part s 0 contents_bytes ≡ part s₀ 0 contents_bytes

-- The row is one that an operation may write: a group in range, a record that exists and that a row may replace, and as many bytes as it has.
pub record Fits (h : Shape) (w : Write) : Type 0 where
  pub writes : Writes h w.group w.key w.body

-- rules 98 and 100: an image of shape h can take the row, by the test that apply makes
unfoldable pub accepted : Shape → Write → Bool
accepted h w = is_fitting_row h (row_from h w)

-- the image with the row's bytes in place of its record
unfoldable pub put_write : Shape → List ℕ → Write → List ℕ
put_write h s w = cond (accepted h w) (store h s w.key w.body) s
