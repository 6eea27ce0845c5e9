-- Whether an inode is replaced, and whether it is gone, can be decided. Assumes nothing.
use mathlib.Core.Logic.Dec as dec
use Rattle.std.specs.Prelude.{ℕ}
use Rattle.std.proofs.Math.Decide.{ℕ_discrete}
use Rattle.layout.specs.View.{View}
use Rattle.tree.specs.Tree.{entries_of}
use Rattle.edits.proofs.KindsLaws.{entry_used?}
use Rattle.edits.specs.Moved.{Replaced, Gone}

pub replaced? : (v : View) (new i : ℕ) → Dec (Replaced v new i)
replaced? v new i = dec.and (entry_used? v new) (ℕ_discrete (v.target new) i)

pub gone? : (v w : View) (new i : ℕ) → Dec (Gone v w new i)
gone? v w new i = dec.and (replaced? v new i) (ℕ_discrete (entries_of w i) 0)
