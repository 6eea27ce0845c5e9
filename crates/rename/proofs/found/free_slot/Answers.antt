-- `rename::found::free_slot` meets its contract. Assumes nothing.
use Rattle.std.proofs.Common.{rules, arith, ◌≡◌, ◌∙◌, not, ℕ, Bool}
use borrow.Author.Tests.{tests}
use Rattle.seq.specs.Search.{first}
use Rattle.seq.proofs.ChainLaws.{range_position}
use Rattle.seq.proofs.SearchLaws.{first_le}
use Rattle.layout.specs.View.{view_of, entry_used}
use Rattle.rename.specs.Order.{free_slot}
use Rattle.rename.proofs.found.free_slot.Goals as goal

pub returns : goal.returns
unfolding free_slot view_of
returns c =
    let free : ℕ → Bool = λ j. not (entry_used (view_of c.args.image.now.shape c.args.image.now.bytes.now) j) in
    let n = c.args.image.now.shape.entries in
    let found : c.unwrap_or.result ≡ first free n =
    c.unwrap_or.ensures ∙ range_position _ _ c.position.ensures.ran (search rules) (search (rules, tests)) in
    (found, omega (arith, found, first_le free n))
