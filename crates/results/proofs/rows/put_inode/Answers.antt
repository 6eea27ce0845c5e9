-- `results::rows::put_inode` meets its contract. Assumes nothing.
use mathlib.Core.Path.{refl}
use Rattle.plan.specs.Write.{inode_key}
use Rattle.plan.proofs.AddedLaws.{added_one}
use Rattle.results.specs.Results.{result_row}
use Rattle.results.proofs.rows.put_inode.Goals as goal

pub returns : goal.returns
returns c = added_one _ (result_row (inode_key c.args.i) c.args.r.now) c.push.ensures c.inode_place.ensures refl
