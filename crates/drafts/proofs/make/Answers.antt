-- `drafts::make` meets its contract. Assumes nothing.
use Rattle.std.proofs.Common.{rules}
use Rattle.seq.specs.Truth.{fails, holds}
use Rattle.layout.proofs.RecordLaws.{field_of}
use Rattle.encode.specs.Journal.{journal_of, journal_formed}
use Rattle.drafts.proofs.DraftLaws.{draft_unformed, draft_rename, draft_exchange, draft_other}
use Rattle.drafts.proofs.make.Goals as goal

pub returns-then-not-formed : goal.returns-then-not-formed
returns-then-not-formed c =
    let unformed = fails (field_of journal_formed c.journal-r.ensures c.formed.ensures) c.if-not-formed.true-raw in
    rw (draft_unformed c.args.image.now.shape c.args.image.now.bytes.now unformed) tt

pub returns-in-Ok-Rename : goal.returns-in-Ok-Rename
returns-in-Ok-Rename c =
    let formed = holds (field_of journal_formed c.journal-r.ensures c.formed.ensures) c.if-not-formed.false-raw in
    let says = field_of journal_of c.journal-r.ensures c.read-j.ensures.0 in
    let kind = rw c.in-Ok-Rename.field-0-is at c.in-Ok-Rename.ensures in
    rw (draft_rename c.args.image.now.shape c.args.image.now.bytes.now formed _ says (search (rules, kind))) c.draft.ensures

pub returns-in-Ok-Exchange : goal.returns-in-Ok-Exchange
returns-in-Ok-Exchange c =
    let formed = holds (field_of journal_formed c.journal-r.ensures c.formed.ensures) c.if-not-formed.false-raw in
    let says = field_of journal_of c.journal-r.ensures c.read-j.ensures.0 in
    let kind = rw c.in-Ok-Exchange.field-0-is at c.in-Ok-Exchange.ensures in
    rw (draft_exchange c.args.image.now.shape c.args.image.now.bytes.now formed _ says (search (rules, kind))) c.draft-in-Ok-Exchange.ensures

pub returns-in-Err : goal.returns-in-Err
returns-in-Err c =
    let formed = holds (field_of journal_formed c.journal-r.ensures c.formed.ensures) c.if-not-formed.false-raw in
    let says = field_of journal_of c.journal-r.ensures c.read-j.ensures.0 in
    rw (draft_other c.args.image.now.shape c.args.image.now.bytes.now formed _ says (search (rules, c.in-Err.ensures.0)) (search (rules, c.in-Err.ensures.1))) tt
