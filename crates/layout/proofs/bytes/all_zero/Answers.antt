-- `layout::bytes::all_zero` meets its contract. Assumes nothing.
use Rattle.std.proofs.Common.{rules, ◌∙◌}
use Rattle.std.proofs.lemmas.Iterator.{YieldsList-from_slice}
use Rattle.std.proofs.lemmas.Iterator.Search.{all_from_yields_List}
use borrow.Author.Tests.{tests}
use Rattle.seq.proofs.SliceLaws.{zero_piece, zero_byte, zeros_then, zeros_else}
use Rattle.layout.proofs.bytes.all_zero.Goals as goal

pub returns-then-all : goal.returns-then-all
returns-then-all c =
    let chunks = c.as_chunks.ensures in
    zeros_then _ _ _ c.requires
    (all_from_yields_List zero_piece _ _ _ c.all.ensures.ran (YieldsList-from_slice _ (c.iter.ensures.rest ∙ chunks.front)) (search (rules, tests)))
    c.if-all.true
    (all_from_yields_List zero_byte _ _ _ c.all-then-all.ensures.ran (YieldsList-from_slice _ (c.iter-then-all.ensures.rest ∙ chunks.back)) (search (rules, tests)))

pub returns-else-all : goal.returns-else-all
returns-else-all c =
    zeros_else _ _ _ c.requires
    (all_from_yields_List zero_piece _ _ _ c.all.ensures.ran (YieldsList-from_slice _ (c.iter.ensures.rest ∙ c.as_chunks.ensures.front)) (search (rules, tests)))
    c.if-all.false
