-- The law holds.
use Rattle.laws.proofs.Rows.{premise_needed}
use Rattle.laws.proofs.premise_needed.Goals as goal

pub returns : goal.returns
returns c = premise_needed
