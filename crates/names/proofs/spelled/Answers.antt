-- `names::spelled` meets its contract. Assumes nothing.
use Rattle.std.specs.Prelude.{◌≡◌}
use Rattle.std.proofs.Common.{sym, ◌∙◌, ap}
use Rattle.seq.specs.Bytes.{part}
use Rattle.seq.proofs.BytesLaws.{part_range}
use Rattle.names.specs.Name.{plain_name}
use Rattle.names.specs.NameTests.{name_spelled}
use Rattle.names.specs.FrontLaws.{front_spelled}
use Rattle.names.proofs.spelled.Goals as goal

pub returns-then-front_good : goal.returns-then-front_good
returns-then-front_good c =
    let front = front_spelled c.args.e.now c.args.n c.requires.0 c.if-n-le-FRONT_BYTES.true in
    c.all_zero.ensures ∙ sym (front ∙ rw (sym c.front_good.ensures ∙ c.if-front_good.true))

pub returns-else-front_good : goal.returns-else-front_good
returns-else-front_good c =
    let front = front_spelled c.args.e.now c.args.n c.requires.0 c.if-n-le-FRONT_BYTES.true in
    let fails = c.if-front_good.false in
    fails ∙ sym (front ∙ rw (sym c.front_good.ensures ∙ fails))

pub returns-then-bytes_good : goal.returns-then-bytes_good
unfolding name_spelled
returns-then-bytes_good c =
    let plain = ap plain_name (sym (part_range c.args.e.now 8 c.args.n)) ∙ sym c.bytes_good.ensures ∙ c.if-bytes_good.true in
    rw plain c.all_zero-then-bytes_good.ensures

pub returns-else-bytes_good : goal.returns-else-bytes_good
unfolding name_spelled
returns-else-bytes_good c =
    let plain = ap plain_name (sym (part_range c.args.e.now 8 c.args.n)) ∙ sym c.bytes_good.ensures ∙ c.if-bytes_good.false in
    rw plain c.if-bytes_good.false
