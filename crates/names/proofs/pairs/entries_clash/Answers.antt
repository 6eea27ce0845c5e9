-- `names::pairs::entries_clash` meets its contract. Assumes nothing.
use mathlib.Core.Path.{ap}
use native.Mathlib.Omega.{arith}
use Rattle.layout.specs.Fields.{entry_name_length}
use Rattle.layout.specs.View.{view_of}
use Rattle.names.proofs.pairs.entries_clash.Goals as goal

pub name-requires : goal.name-requires
unfolding view_of
name-requires c =
    let n = ap entry_name_length c.entry-a.ensures.is in
    omega (arith, c.requires.0.fits c.args.i c.requires.1, c.entry-a.ensures.long, c.args.image.now.laid.width_least)

pub name-requires-then-parent : goal.name-requires-then-parent
unfolding view_of
name-requires-then-parent c =
    let fits = c.requires.0.fits in
    let m = ap entry_name_length c.entry-a.ensures.is in
    let n = ap entry_name_length c.entry-b.ensures.is in
    omega (
      arith,
      fits c.args.i c.requires.1,
      fits c.args.j c.requires.2,
      c.entry-a.ensures.long,
      c.entry-b.ensures.long,
      c.args.image.now.laid.width_least,
    )
