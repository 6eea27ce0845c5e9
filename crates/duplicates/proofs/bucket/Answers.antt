-- `duplicates::bucket` meets its contract. Assumes nothing.
use mathlib.Core.Path.{sym, ap, ◌∙◌}
use borrow.Author.Rules.{rules}
use Rattle.layout.specs.Fields.{entry_name_length}
use Rattle.layout.proofs.RecordLaws.{field_of}
use Rattle.layout.specs.View.{view_of}
use Rattle.duplicates.specs.Bucket.{mixed_of}
use Rattle.duplicates.proofs.BucketLaws.{bucket_free, bucket_mixed}
use Rattle.duplicates.proofs.bucket.Goals as goal

pub returns-then-name_length-eq0 : goal.returns-then-name_length-eq0
unfolding view_of
returns-then-name_length-eq0 c =
    let free = sym (field_of entry_name_length c.entry-e.ensures c.name_length.ensures.0) ∙ c.if-name_length-eq0.true in
    (sym (bucket_free _ _ free), search rules)

pub returns-else-name_length-eq0 : goal.returns-else-name_length-eq0
unfolding view_of
returns-else-name_length-eq0 c =
    let image = c.args.image.now in
    let length = field_of entry_name_length c.entry-e.ensures c.name_length.ensures.0 in
    let mixed = bucket_mixed image.shape image.bytes.now c.args.j image.laid c.requires.0 c.requires.1 in
    let read = mixed (λ e. c.if-name_length-eq0.false (length ∙ e)) in
    (c.mixed.ensures.0 ∙ ap mixed_of c.entry-e.ensures.is ∙ read, search rules)
