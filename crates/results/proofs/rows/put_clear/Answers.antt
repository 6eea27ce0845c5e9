-- `results::rows::put_clear` meets its contract. Assumes nothing.
use mathlib.Core.Path.{refl}
use Rattle.plan.proofs.AddedLaws.{added_one}
use Rattle.results.specs.Results.{clear_row}
use Rattle.results.proofs.rows.put_clear.Goals as goal

pub returns : goal.returns
returns c = added_one _ (clear_row c.args.image.now.shape) c.push_clearing.ensures c.journal_place.ensures refl
