-- `encode::journal::read` meets its contract. Assumes nothing.
use native.Mathlib.Omega.{arith}
use lib.ListN.{get_or}
use borrow.Author.Rules.{rules}
use Rattle.encode.specs.Journal.{journal_of}
use Rattle.encode.proofs.journal.read.Goals as goal

pub returns : goal.returns
unfolding journal_of
returns c =
    let args = c.args in
    let old = c.get16.ensures.0 in
    let new = c.get16-2.ensures.0 in
    let moved = c.get16-3.ensures.0 in
    let replaced = c.get16-4.ensures.0 in
    let parent = c.get16-5.ensures.0 in
    let text = c.get16-6.ensures.0 in
    let time = c.get64.ensures in (
      λ i. record {
        kind = get_or args.r.now 1 0;
        old = old i;
        new = new i;
        moved = moved i;
        replaced = replaced i;
        parent = parent i;
        text = text i;
        time = time i;
      },
      record {
        kind = omega (arith, c.shared_slice_known-1.given 1);
        old = search rules;
        new = search rules;
        moved = search rules;
        replaced = search rules;
        parent = search rules;
        text = search rules;
        time = search rules;
      },
    )
