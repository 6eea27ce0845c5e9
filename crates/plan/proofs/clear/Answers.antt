-- `plan::clear` meets its contract. Assumes nothing.
use Rattle.plan.specs.Form.{cleared}
use Rattle.plan.proofs.clear.Goals as goal

pub returns : goal.returns
unfolding cleared
returns c = c.copy.ensures
