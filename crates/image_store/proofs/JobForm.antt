-- Apply is the writer of that store: what a plan's bytes and a number write is one of its rows. Assumes nothing.
use Rattle.std.specs.Prelude.{◌≡◌, not, List, ℕ, eqb}
use Rattle.std.proofs.Math.Path.{sym, ap}
use Rattle.std.proofs.Common.{◌∙◌, subst, arith, eq-eqb}
use Rattle.std.proofs.lemmas.Bool.{eqb-false, not-true}
use Rattle.seq.specs.Truth.{to_t, of_t}
use Rattle.seq.proofs.BytesLaws.{part_length}
use Rattle.layout.specs.declared.Shape.{Shape}
use Rattle.layout.specs.Place.{Key, record_bytes}
use Rattle.plan.specs.Form.{body_at, row_length, row_offset, row_at}
use Rattle.plan.specs.Jobs.{Job}
use Rattle.plan.specs.FitFacts.{Covered, Applicable}
use Rattle.plan.proofs.FitLaws.{applicable_fits}
use Rattle.apply.specs.Apply.{apply_number, applied_image}
use Rattle.apply.specs.OneRow.{Applies}
use Rattle.apply.proofs.Laws.{applies_zero, refused_same, applied_done, applied_store}
use Rattle.crash_theorem.specs.Form.{Form}
use Rattle.image_store.specs.Image.{Ok, Fits, put_write}
use Rattle.image_store.proofs.ImageLaws.{put_is, images}
use Rattle.image_store.specs.Covered.{key_at}
use Rattle.image_store.proofs.CoveredLaws.{key_covered, key_is}
use Rattle.image_store.specs.Buffers.{Buffers, enough}
use Rattle.image_store.specs.Job.{write, Takes}

-- ---- applying such a row does what the row says

module _ (h : Shape) (s₀ s : List ℕ) (j : Job) (o : Ok h s₀ s) (t : Takes h j) where
  -- the record that it covers, by the key found
  found : Covered h (row_at j.plan j.number).offset (row_at j.plan j.number).bytes
  unfolding row_at
  found =
      let (v, a, e) = key_covered h _ _ t.row.covered in
      let k = key_is h (omega (arith, o.read.laid.width_least)) _ _ t.row.covered in
      let w : row_length j.plan j.number ≡ record_bytes h (key_at h (row_offset j.plan j.number) (row_length j.plan j.number)).section =
      t.row.covered.whole ∙ ap (λ (x : Key). record_bytes h x.section) (sym k) in
      record { key = key_at h (row_offset j.plan j.number) (row_length j.plan j.number); valid = v; allowed = a; begins = e; whole = w }

  pub takes_fits : Fits h (write h j)
  unfolding row_at found
  takes_fits =
      let f = applicable_fits h s j.plan j.number o.read.laid t.row in
      let long = part_length j.plan (body_at j.number) (row_length j.plan j.number) (omega (arith, f.0, t.long, t.row.below)) in
      record {
        writes = record { first = t.row.first; last = t.row.last; valid = found.valid; allowed = found.allowed; whole = long ∙ found.whole };
      }

  pub takes_applies : Applies s j.plan j.number
  takes_applies =
      record { long = t.long; layout = o.read.good; row = subst (λ (x : Shape). Applicable x j.plan j.number) o.read.shape t.row }

  pub takes_zero : apply_number s j.plan j.number ≡ 0
  takes_zero = applies_zero s j.plan j.number takes_applies

  pub takes_puts : applied_image s j.plan j.number ≡ put_write h s (write h j)
  unfolding found
  takes_puts =
      applied_done s j.plan j.number takes_applies ∙ applied_store h s (row_at j.plan j.number) found ∙ sym (put_is h s (write h j) takes_fits)

-- Rows as apply is given them, as a form of rows by record: one is accepted where apply answers 0, and leaves the image that apply leaves.
abbrev pub job_form : (h : Shape) (s₀ : List ℕ) → Form (images h s₀)
job_form h s₀ = record {
  Row = Job;
  Lent = Buffers;
  says = write h;
  lends = λ b. tt;
  enough = enough;
  put = λ s j. applied_image s j.plan j.number;
  accepts = λ s j. eqb (apply_number s j.plan j.number) 0;
  Takes = Takes h;
  fits = λ {X} {r} o t. takes_fits h s₀ X r o t;
  takes = λ {X} {r} o t. to_t (eqb (apply_number X r.plan r.number) 0) (eq-eqb _ _ (takes_zero h s₀ X r o t));
  puts = λ {X} {r} o t. takes_puts h s₀ X r o t;
  refuses = λ X r t. refused_same X r.plan r.number
      (eqb-false _ _ (not-true (eqb (apply_number X r.plan r.number) 0) (of_t (not (eqb (apply_number X r.plan r.number) 0)) t)));
  suffices = λ b X t. tt;
}
