-- `rename::flagged::judge` meets its contract. Assumes nothing.
use mathlib.Core.Path.{sym, ◌∙◌}
use Rattle.layout.specs.View.{view_of}
use Rattle.rename.proofs.FlagLaws.{exchange_missing, exchange_there, kept_there, rename_missing, rename_free}
use Rattle.rename.proofs.flagged.judge.Goals as goal

pub returns-then-c-eq-ABSENT : goal.returns-then-c-eq-ABSENT
returns-then-c-eq-ABSENT c =
    let v = view_of c.args.image.now.shape c.args.image.now.bytes.now in
    sym (exchange_missing v c.args.q c.args.c c.if-q-eq-EXCHANGE.true c.if-c-eq-ABSENT.true)

pub judge-requires : goal.judge-requires
judge-requires c =
    (c.requires, c.requires.replaced c.if-c-eq-ABSENT.false)

pub returns-then-q-eq-EXCHANGE : goal.returns-then-q-eq-EXCHANGE
returns-then-q-eq-EXCHANGE c =
    let v = view_of c.args.image.now.shape c.args.image.now.bytes.now in
    c.judge.ensures ∙ sym (exchange_there v c.args.q c.args.c c.if-q-eq-EXCHANGE.true c.if-c-eq-ABSENT.false)

pub returns-then-q-ne-NO_REPLACE : goal.returns-then-q-ne-NO_REPLACE
returns-then-q-ne-NO_REPLACE c =
    let v = view_of c.args.image.now.shape c.args.image.now.bytes.now in
    c.judge-then-q-ne-NO_REPLACE.ensures ∙ sym (rename_free v c.args.q c.args.c c.if-q-eq-EXCHANGE.false c.if-q-ne-NO_REPLACE.true)

pub returns-then-c-ne-ABSENT : goal.returns-then-c-ne-ABSENT
returns-then-c-ne-ABSENT c =
    let v = view_of c.args.image.now.shape c.args.image.now.bytes.now in
    sym (kept_there v c.args.q c.args.c c.if-q-eq-EXCHANGE.false c.if-q-ne-NO_REPLACE.false c.if-c-ne-ABSENT.true)

pub returns : goal.returns
returns c =
    let v = view_of c.args.image.now.shape c.args.image.now.bytes.now in
    c.judge-2.ensures ∙ sym (rename_missing v c.args.q c.args.c c.if-q-eq-EXCHANGE.false c.if-c-ne-ABSENT.false)
